use Rattle.std.proofs.Common.{ap, ◌∙◌, map, ◌++◌, ◌∷◌, []}
use Rattle.serde_json.specs.Data.{Data}
use Rattle.serde_json.specs.View.{view}
use Rattle.bt_places.specs.Shapes.{location}
use Rattle.bt_answers.proofs.references.with_place.Goals as goal

pub returns : goal.returns
returns c =
    c.in_ok-all.ensures ∙ ap (λ (v : Data). map view c.args.list.items ++ v ∷ []) (c.in_ok-place.ensures ∙ ap (location c.args.file.now.uri.now) c.in_ok-range.ensures)
