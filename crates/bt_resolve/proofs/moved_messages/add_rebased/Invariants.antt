use Rattle.std.proofs.Common.{◌≡◌, ◌++◌, take, map}
use Rattle.bt_resolve.specs.inner.Patches.{rebased_message}
use Rattle.bt_resolve.proofs.moved_messages.add_rebased.Given as goal

abbrev pub invariant-more : goal.invariant-more
invariant-more l = l.messages ≡ l.initial.messages ++ map (rebased_message l.stood l.stand) (take l.message-index l.more)
