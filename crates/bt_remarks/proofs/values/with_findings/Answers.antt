use Rattle.std.proofs.Common.{arith}
use Rattle.serde_json.specs.View.{view}
use Rattle.bt_shapes.proofs.MoreLemmas.{mapped_more}
use Rattle.bt_remarks.specs.Values.{finding}
use Rattle.bt_remarks.proofs.values.with_findings.Goals as goal

pub found-preserved : goal.found-preserved
found-preserved c =
    mapped_more view (finding c.args.style.now.counting c.args.style.now.uri.now c.args.style.now.text.now) c.args.found.now c.found.one-index c.one-item.result _ _ _ _ (omega (arith, c.found-test.true))
    c.one-item.is c.in_ok-push.ensures.items c.in_ok-finding_value.ensures c.found.invariant
