use Rattle.std.proofs.Common.{◌∙◌, ap, ℕ, List}
use Rattle.std.specs.Prelude.{bytes_eq}
use Rattle.std.specs.Map.{lookup}
use Rattle.bt_text.specs.CaseFolding.{folded}
use Rattle.bt_text.specs.NameList.{same_name}
use Rattle.bt_text.proofs.NameLemmas.{if_ok, same_by_small}
use Rattle.bt_text.proofs.name_list.NameList.find.Goals as goal

pub returns : goal.returns
returns c =
    if_ok _ _ c.get.result (λ found is.
    is ∙ ap (λ (es : List (List ℕ × List ℕ)). lookup (bytes_eq (folded c.args.name.now)) es) c.self.invariant
    ∙ same_by_small c.args.name.now _
    ∙ ap (λ (names : List (List ℕ)). same_name c.args.name.now names) c.self.view_is) c.get.ensures
