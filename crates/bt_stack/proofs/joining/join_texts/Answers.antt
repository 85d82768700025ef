use Rattle.bt_stack.proofs.JoinLemmas.{made_joined}
use Rattle.bt_stack.proofs.joining.join_texts.Goals as goal

pub returns-in-Made-Made-clause-item : goal.returns-in-Made-Made-clause-item
returns-in-Made-Made-clause-item c =
    made_joined _ _ _ _ _ _ _ _ c.in-Made-Made.is-0 c.in-Made-Made.is-1 c.if-start-count.true c.requires.lower c.requires.upper c.requires.len
