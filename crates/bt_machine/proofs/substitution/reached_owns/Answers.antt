use Rattle.bt_machine.proofs.Listed.{owns_listed}
use Rattle.bt_machine.proofs.substitution.reached_owns.Goals as goal

pub returns : goal.returns
returns c = rw (c.as_slice.ensures, c.as_slice-2.ensures) (owns_listed c.args.reach.now)
