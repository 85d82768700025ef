use Rattle.std.proofs.Common.{◌≡◌, All, false, take}
use Rattle.bt_style.specs.declared.style.Command.{Command}
use Rattle.bt_run.specs.inner.WalkContext.{is_read}
use Rattle.bt_run.proofs.walk_context.are_readless.Given as goal

abbrev pub invariant-commands : goal.invariant-commands
invariant-commands l = All (λ (c : Command). is_read c.action ≡ false) (take l.number l.commands)
