use Rattle.std.proofs.Common.{take}
use Rattle.bt_run.specs.inner.WalkContext.{AreReadless}
use Rattle.bt_run.proofs.walk_context.read_number.Given as goal

abbrev pub invariant-commands : goal.invariant-commands
invariant-commands l = AreReadless (take l.number l.commands)
