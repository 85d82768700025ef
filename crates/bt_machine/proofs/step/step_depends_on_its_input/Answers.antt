use Rattle.bt_machine.proofs.Local.{step_local}
use Rattle.bt_machine.proofs.step.step_depends_on_its_input.Goals as goal

pub returns : goal.returns
returns c = step_local
