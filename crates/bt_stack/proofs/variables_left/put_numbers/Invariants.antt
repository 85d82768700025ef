use Rattle.std.proofs.Common.{◌≡◌, take}
use Rattle.bt_stack.specs.inner.Kept.{values_over}
use Rattle.bt_stack.proofs.variables_left.put_numbers.Given as goal

abbrev pub invariant-numbers : goal.invariant-numbers
invariant-numbers l = l.left ≡ values_over (take l.n l.numbers) l.fn.left
