use Rattle.std.proofs.Common.{arith}
use Rattle.serde_json.specs.View.{view}
use Rattle.bt_shapes.proofs.MoreLemmas.{mapped_more}
use Rattle.bt_remarks.specs.Values.{call}
use Rattle.bt_remarks.proofs.values.call_values.Goals as goal

pub calls-preserved : goal.calls-preserved
calls-preserved c =
    mapped_more view (call c.args.style.now.counting c.args.style.now.uri.now c.args.style.now.text.now) c.args.calls.now c.calls.one-index c.one-item.result _ _ _ _ (omega (arith, c.calls-test.true))
    c.one-item.is c.in_ok-push.ensures.items c.in_ok-call_value.ensures c.calls.invariant
