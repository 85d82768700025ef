-- What the desk says has no floats, and its notes are no answers.
use Rattle.std.proofs.Common.{◌≡◌, ℕ, List, [], ◌∷◌, ◌++◌, map, refl, sym, subst, Bool, true, false, if◌then◌else◌, Option, Some, None, Result, Ok, Err}
use Rattle.std.specs.List.{AllByRecursion}
use Rattle.serde_json.specs.Written.{has_float}
use Rattle.serde_json.specs.Data.{Data, null}
use Rattle.serde_json.specs.declared.value.Value.{Value}
use Rattle.bt_rpc.specs.declared.answers.RpcError.{RpcError}
use Rattle.bt_talk.specs.Handled.{IsNote, HasNoFloat}
use Rattle.bt_talk.specs.Replies.{outcome_of, IsPlain}
use Rattle.bt_diagnostics.specs.declared.diagnostic.Diagnostic.{Diagnostic}
use Rattle.bt_places.specs.Shapes.{diagnostic, publication}
use Rattle.bt_places.specs.Hover.{hover_lines}
use Rattle.bt_places.proofs.PlainLists.{IsPlainData, items_plain, all_both}

-- ---- notes

pub diagnostics_plain : (ds : List Diagnostic) → AllByRecursion HasNoFloat (map diagnostic ds)
diagnostics_plain [] = tt
diagnostics_plain (d ∷ ds) = (refl, diagnostics_plain ds)

pub publication_note : (uri : List ℕ) (list : List Data) → AllByRecursion HasNoFloat list → IsNote (publication uri list)
publication_note uri list p = (refl, rw (items_plain list p) refl)

pub one_note : (b : Bool) (note : Data) (list : List Data) → IsNote note → AllByRecursion IsNote list → AllByRecursion IsNote (if b then list ++ note ∷ [] else list)
one_note true note list is p = all_both IsNote list (note ∷ []) p (is, tt)
one_note false note list is p = p

pub no_note : (b : Bool) (note : Data) (list : List Data) → IsNote note → AllByRecursion IsNote list → AllByRecursion IsNote (if b then list else list ++ note ∷ [])
no_note true note list is p = p
no_note false note list is p = all_both IsNote list (note ∷ []) p (is, tt)

-- ---- outcomes

pub hover_lines_plain : (plain : Bool) (lines : List ℕ) → has_float (hover_lines plain lines) ≡ false
hover_lines_plain plain [] = refl
hover_lines_plain true (b ∷ t) = refl
hover_lines_plain false (b ∷ t) = refl

pub found_plain : (o : Option ℕ) (f : ℕ → Data) → ((n : ℕ) → has_float (f n) ≡ false) → has_float (elim o [ None ↦ null | Some place ↦ f place ]) ≡ false
found_plain None f p = refl
found_plain (Some n) f p = p n

pub plain_from : (q : Result Data RpcError) (o : Result Value RpcError) → outcome_of o ≡ q → IsPlainData q → IsPlain o
plain_from q (Ok v) e p = subst IsPlainData (sym e) p
plain_from q (Err r) e p = tt
