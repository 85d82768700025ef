use Rattle.std.proofs.Common.{◌≡◌, map, take}
use Rattle.bt_run.specs.inner.Marks.{bare_mark}
use Rattle.bt_run.proofs.mark.marks_of.Given as goal

abbrev pub invariant-steps : goal.invariant-steps
invariant-steps l = l.marks ≡ map bare_mark (take l.step-index l.steps)
