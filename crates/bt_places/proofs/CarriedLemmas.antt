-- What the desk does with a message, from its steps.
use Rattle.std.proofs.Common.{◌≡◌, ◌∙◌, ◌⊎◌, inl, inr, sym, refl, Bool, true, false, ◌||◌, List}
use Rattle.std.specs.Prelude.{IsTrue}
use Rattle.bt_documents.specs.Documents.{any_behind}
use Rattle.bt_documents.specs.declared.document.Document.{Document}

pub lags_if : (stale behind lags : Bool) → lags ≡ stale || behind → IsTrue stale → IsTrue lags
lags_if true behind lags is t = is
lags_if false behind lags is t = absurd (cc)

-- what lags, by its parts
pub lags_by : (stale behind lags : Bool) (docs : List Document) → lags ≡ stale || behind → (IsTrue behind → IsTrue (any_behind docs)) → IsTrue lags → IsTrue stale ⊎ IsTrue (any_behind docs)
lags_by true behind lags docs is which t = inl refl
lags_by false behind lags docs is which t = inr (which (sym is ∙ t))
