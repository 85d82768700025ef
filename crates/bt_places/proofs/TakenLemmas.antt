-- What was done to the documents, from what was called.
use Rattle.std.proofs.Common.{◌≡◌, sym, subst, ℕ, List, Option}
use Rattle.bt_documents.specs.declared.document.Document.{Document}
use Rattle.bt_documents.specs.Documents.{Follows}

pub refreshed : (t u : List ℕ → Option (List ℕ)) (docs slice : List Document) → slice ≡ docs → (Follows t slice → Follows u slice) → Follows t docs → Follows u docs
refreshed t u docs slice e k f = subst (Follows u) e (k (subst (Follows t) (sym e) f))
