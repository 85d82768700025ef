use Rattle.std.proofs.Common.{◌≡◌, take}
use Rattle.bt_why.proofs.rerun.are_same_messages.Given as goal

abbrev pub invariant-messages : goal.invariant-messages
invariant-messages l = take l.place l.messages ≡ take l.place l.others
