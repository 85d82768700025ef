use Rattle.std.proofs.Common.{◌≡◌}
use Rattle.bt_machine.proofs.step.shared_lines.Given as goal

abbrev pub invariant-lines : goal.invariant-lines
invariant-lines l = l.shared.items ≡ l.yielded
