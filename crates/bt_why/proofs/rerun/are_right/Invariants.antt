use Rattle.std.proofs.Common.{take}
use Rattle.bt_why.specs.Named.{AllRight}
use Rattle.bt_why.proofs.rerun.are_right.Given as goal

abbrev pub invariant-steps : goal.invariant-steps
invariant-steps l = AllRight l.machine (take l.step-index l.steps)
