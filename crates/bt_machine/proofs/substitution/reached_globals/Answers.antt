use Rattle.bt_machine.proofs.Listed.{globals_listed}
use Rattle.bt_machine.proofs.substitution.reached_globals.Goals as goal

pub returns : goal.returns
returns c = rw (c.as_slice.ensures, c.as_slice-2.ensures) (globals_listed c.args.reach.now)
