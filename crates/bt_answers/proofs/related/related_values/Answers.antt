use Rattle.std.proofs.Common.{arith}
use Rattle.serde_json.specs.View.{view}
use Rattle.bt_answers.specs.Related.{related_value}
use Rattle.bt_places.proofs.MoreLemmas.{mapped_more}
use Rattle.bt_answers.proofs.related.related_values.Goals as goal

pub found-preserved : goal.found-preserved
found-preserved c =
    mapped_more view (related_value c.args.document.now c.args.pieces.now) c.args.found.now c.found.one-index c.one-item.result _ _ _ _ (omega (arith, c.found-test.true)) c.one-item.is
    c.in_ok-push.ensures.items c.in_ok-related_value.ensures c.found.invariant
