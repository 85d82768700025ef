use Rattle.std.specs.Prelude.{slice_get}
use Rattle.std.proofs.Common.{◌≡◌, ◌<◌, ℕ, true, Some}
use Rattle.bt_style.specs.declared.style.Command.{Command}
use Rattle.bt_run.specs.inner.SortOrder.{keeps_entries}
use Rattle.bt_run.proofs.sort_order.is_iterated.Given as goal

abbrev pub invariant-commands : goal.invariant-commands
invariant-commands l = (k : ℕ) (c : Command) → l.sort < k → k < l.number → slice_get l.commands k ≡ Some c → keeps_entries c.action ≡ true
