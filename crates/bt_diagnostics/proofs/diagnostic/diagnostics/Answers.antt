use Rattle.std.proofs.Common.{arith}
use Rattle.bt_text.specs.ByName.{known}
use Rattle.bt_diagnostics.specs.Diagnostics.{diagnostic_of}
use Rattle.bt_diagnostics.proofs.ShownLemmas.{one_more_shown}
use Rattle.bt_diagnostics.proofs.diagnostic.diagnostics.Goals as goal

pub messages-preserved : goal.messages-preserved
messages-preserved c =
    one_more_shown (diagnostic_of c.args.file.now.name.now c.args.file.now.counting c.args.file.now.text.now c.args.keys.now.role (known c.args.keys.now.spans)) c.args.messages.now c.messages.message-index c.message-item.result _ _ _
    (omega (arith, c.messages-test.true)) c.message-item.is c.messages.invariant c.in_ok-push_if_any.ensures.ok c.in_ok-diagnostic.ensures
