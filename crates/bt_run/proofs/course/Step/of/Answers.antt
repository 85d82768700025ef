use Rattle.std.proofs.Common.{refl}
use Rattle.bt_run.proofs.course.Step.of.Goals as goal

pub returns : goal.returns
returns c = rw c.in_ok-key.ensures refl
