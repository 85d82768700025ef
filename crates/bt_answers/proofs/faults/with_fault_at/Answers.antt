use Rattle.std.proofs.Common.{ap, ◌∙◌, map, ◌++◌, ◌∷◌, []}
use Rattle.serde_json.specs.Data.{Data}
use Rattle.serde_json.specs.View.{view}
use Rattle.bt_answers.specs.Faults.{fault_value}
use Rattle.bt_answers.proofs.faults.with_fault_at.Goals as goal

pub returns : goal.returns
returns c =
    c.in_ok-all.ensures ∙ ap (λ (v : Data). map view c.args.list.items ++ v ∷ [])
    (c.in_ok-value.ensures ∙ ap (λ (r : Data). fault_value r c.args.words.now) c.in_ok-range.ensures)
