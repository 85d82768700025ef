use Rattle.std.proofs.Common.{◌≡◌, ℤ, ◌+◌, ◌-◌, List, length}
use Rattle.bt_stack.specs.inner.Kept.{values_over}
use Rattle.bt_stack.proofs.step_variables.make_number_place.Given as goal

abbrev pub invariant-numbers : goal.invariant-numbers
invariant-numbers l = (zs : List ℤ) → values_over l.numbers.items zs ≡ values_over l.fn.numbers.items zs

abbrev pub decreases-numbers : goal.decreases-numbers
decreases-numbers l = l.n + 1 - length l.numbers.items
