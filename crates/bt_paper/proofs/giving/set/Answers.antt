use Rattle.bt_paper.proofs.TextLemmas.{text_written}
use Rattle.bt_paper.proofs.giving.set.Goals as goal

pub returns-in-Ok-clause-gives : goal.returns-in-Ok-clause-gives
returns-in-Ok-clause-gives c = λ t. text_written c.args.name.now c.args.new.now c.args.session.now c.write.new.self c.in-Ok.ensures.ok
