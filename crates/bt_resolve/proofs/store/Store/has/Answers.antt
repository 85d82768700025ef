use Rattle.std.proofs.Common.{◌∙◌, ap, ℕ, Bool, List}
use Rattle.std.specs.Prelude.{bytes_eq, is_some}
use Rattle.std.specs.Map.{lookup}
use Rattle.bt_text.specs.CaseFolding.{folded}
use Rattle.bt_text.proofs.NameLemmas.{if_ok, has_by_small}
use Rattle.bt_resolve.specs.declared.stored.Stored.{Stored}
use Rattle.bt_resolve.specs.Stored.{is_stored}
use Rattle.bt_resolve.proofs.store.Store.has.Goals as goal

pub returns : goal.returns
returns c =
    if_ok _ _ c.has.result (λ (stored : Bool) is.
    is ∙ ap (λ (es : List (List ℕ × Stored)). is_some (lookup (bytes_eq (folded c.args.key.now)) es)) c.self.invariant.keys_known
    ∙ has_by_small (λ (s : Stored). s.key) (folded c.args.key.now) _
    ∙ ap (λ (entries : List Stored). is_stored entries c.args.key.now) c.self.view_is) c.has.ensures
