use Rattle.std.proofs.Common.{◌+◌, ◌≤◌, List}
use Rattle.bt_run.specs.declared.course.Step.{Step}
use Rattle.bt_run.specs.inner.Calls.{AreCallsFrom}
use Rattle.bt_run.proofs.known_calls.skip_calls.Given as goal

abbrev pub invariant-skipped : goal.invariant-skipped
invariant-skipped l = record {
  within : l.skipped ≤ l.count;
  so_far : (steps : List Step) → AreCallsFrom l.earlier l.from steps l.fn.sums → AreCallsFrom l.earlier (l.from + l.skipped) steps l.sums;
}
