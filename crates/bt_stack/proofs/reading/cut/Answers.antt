use Rattle.bt_stack.proofs.TopLemmas.{made_cut}
use Rattle.bt_stack.proofs.reading.cut.Goals as goal

pub returns-in-Made-clause-item : goal.returns-in-Made-clause-item
returns-in-Made-clause-item c =
    made_cut c.args.pool.now _ _ _ _ _ _ _ c.in-Made.is c.requires c.min-from-in-Made.ensures c.min-len-in-Made.ensures
