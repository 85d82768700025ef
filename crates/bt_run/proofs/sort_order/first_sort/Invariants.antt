use Rattle.std.specs.Prelude.{slice_get}
use Rattle.std.proofs.Common.{◌≡◌, ◌<◌, ◌≤◌, ℕ, false, Some}
use Rattle.bt_style.specs.declared.style.Command.{Command}
use Rattle.bt_run.specs.inner.SortOrder.{is_sort}
use Rattle.bt_run.proofs.sort_order.first_sort.Given as goal

abbrev pub invariant-commands : goal.invariant-commands
invariant-commands l = (k : ℕ) (c : Command) → l.from ≤ k → k < l.before → k < l.number → slice_get l.commands k ≡ Some c → is_sort c.action ≡ false
