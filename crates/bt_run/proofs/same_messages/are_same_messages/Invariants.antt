use Rattle.std.proofs.Common.{◌≡◌, take}
use Rattle.bt_run.proofs.same_messages.are_same_messages.Given as goal

abbrev pub invariant-messages : goal.invariant-messages
invariant-messages l = take l.number l.messages ≡ take l.number l.others
