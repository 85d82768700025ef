use Rattle.std.proofs.Common.{◌≡◌, ◌++◌, map, take}
use Rattle.bt_run.specs.Counts.{function_line}
use Rattle.bt_run.specs.inner.Steps.{calls_in}
use Rattle.bt_run.proofs.counts.tell_rows.Given as goal

abbrev pub invariant-builtins : goal.invariant-builtins
invariant-builtins l = l.log ≡ l.fn.log ++ map (function_line (calls_in l.calls)) (take l.builtin-index l.builtins)
