use Rattle.std.proofs.Common.{◌≡◌, map, take}
use Rattle.bt_why.specs.Erased.{rerun_effect}
use Rattle.bt_origins.specs.Steps.{step_effect}
use Rattle.bt_origins.proofs.explained.explain_steps.Given as goal

abbrev pub invariant-steps : goal.invariant-steps
invariant-steps l = map rerun_effect l.explained.steps.items ≡ map step_effect (take l.number l.steps)
