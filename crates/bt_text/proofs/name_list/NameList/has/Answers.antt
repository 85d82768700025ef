use Rattle.std.proofs.Common.{◌∙◌, ap, ℕ, List, Bool}
use Rattle.std.specs.Prelude.{bytes_eq, is_some}
use Rattle.std.specs.Map.{lookup}
use Rattle.bt_text.specs.CaseFolding.{folded}
use Rattle.bt_text.specs.NameList.{has_name}
use Rattle.bt_text.proofs.NameLemmas.{if_ok, has_by_small}
use Rattle.bt_text.proofs.name_list.NameList.has.Goals as goal

pub returns : goal.returns
returns c =
    if_ok _ _ c.has.result (λ (among : Bool) is.
    is ∙ ap (λ (es : List (List ℕ × List ℕ)). is_some (lookup (bytes_eq (folded c.args.name.now)) es)) c.self.invariant
    ∙ has_by_small (λ (name : List ℕ). name) (folded c.args.name.now) _
    ∙ ap (λ (names : List (List ℕ)). has_name names c.args.name.now) c.self.view_is) c.has.ensures
