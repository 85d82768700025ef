use Rattle.std.proofs.Common.{◌≡◌, ◌++◌, take}
use Rattle.bt_resolve.proofs.moved_messages.add_shared.Given as goal

abbrev pub invariant-more : goal.invariant-more
invariant-more l = l.messages ≡ l.initial.messages ++ take l.message-index l.more
