use Rattle.std.proofs.Common.{◌≡◌}
use Rattle.bt_run.specs.inner.Walk.{with_steps}
use Rattle.bt_run.proofs.put.put_steps.Given as goal

abbrev pub invariant-others : goal.invariant-others
invariant-others l = l.steps ≡ with_steps l.initial.steps l.yielded
