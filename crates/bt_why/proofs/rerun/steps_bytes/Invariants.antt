use Rattle.std.proofs.Common.{◌≡◌, ◌++◌, drop}
use Rattle.bt_why.specs.Erased.{steps_bytes}
use Rattle.bt_why.proofs.rerun.steps_bytes.Given as goal

abbrev pub invariant-steps : goal.invariant-steps
invariant-steps l = l.text ++ steps_bytes (drop l.step-index l.steps) ≡ steps_bytes l.steps
