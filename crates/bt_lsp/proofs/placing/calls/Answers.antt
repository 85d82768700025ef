use Rattle.std.proofs.Common.{arith}
use Rattle.serde_json.specs.View.{view}
use Rattle.bt_shapes.proofs.MoreLemmas.{mapped_more}
use Rattle.bt_lsp.specs.Placing.{call}
use Rattle.bt_lsp.proofs.placing.calls.Goals as goal

pub calls-preserved : goal.calls-preserved
calls-preserved c =
    mapped_more view (call c.args.document.now) c.args.all.now c.calls.one-index c.one-item.result _ _ _ _ (omega (arith, c.calls-test.true))
    c.one-item.is c.in_ok-push.ensures.items c.in_ok-call.ensures c.calls.invariant
