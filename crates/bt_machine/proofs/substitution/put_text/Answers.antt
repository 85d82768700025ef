use Rattle.std.proofs.Common.{[]}
use Rattle.bt_machine.proofs.PutLemmas.{none_put}
use Rattle.bt_machine.proofs.substitution.put_text.Goals as goal

pub returns-in-None : goal.returns-in-None
returns-in-None c = none_put c.args.place c.args.left.now c.args.base.now [] c.requires c.in-None.ensures
