use Rattle.std.proofs.Common.{◌≡◌, take}
use Rattle.bt_machine.proofs.reuse.shared_messages.Given as goal

abbrev pub invariant-messages : goal.invariant-messages
invariant-messages l = l.same ≡ take l.message-index l.messages
