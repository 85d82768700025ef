use Rattle.std.proofs.Common.{◌≡◌, take}
use Rattle.bt_run.proofs.start.shared_messages.Given as goal

abbrev pub invariant-messages : goal.invariant-messages
invariant-messages l = l.same ≡ take l.message-index l.messages
