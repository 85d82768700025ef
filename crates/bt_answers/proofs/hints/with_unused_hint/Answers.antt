use Rattle.std.proofs.Common.{ap, ◌∙◌, map, ◌++◌, ◌∷◌, []}
use Rattle.serde_json.specs.Data.{Data}
use Rattle.serde_json.specs.View.{view}
use Rattle.bt_answers.specs.Hints.{unused_hint}
use Rattle.bt_answers.proofs.hints.with_unused_hint.Goals as goal

pub returns : goal.returns
returns c =
    c.in_ok-all.ensures ∙ ap (λ (v : Data). map view c.args.list.items ++ v ∷ []) (c.in_ok-hint.ensures ∙ ap unused_hint c.in_ok-range.ensures)
