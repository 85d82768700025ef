use Rattle.std.proofs.Common.{◌∙◌}
use Rattle.std.specs.Prelude.{map}
use Rattle.serde_json.specs.View.{view}
use Rattle.bt_answers.specs.Hints.{with_missing}
use Rattle.bt_places.specs.Picking.{with_picked}
use Rattle.bt_answers.proofs.hints.with_missing_among.Goals as goal

pub returns : goal.returns
returns c =
    c.in_ok-all.ensures
    ∙ (λ j. with_picked (λ u. with_missing c.args.document.now.counting c.args.known.now) (map view c.args.list.items) (c.as_slice-name.ensures j) (c.as_slice.ensures j))
