use Rattle.bt_sound.proofs.FollowLemmas.{makes_same, makes_double, makes_cite, makes_type}
use Rattle.bt_sound.proofs.parts.simple.Goals as goal

pub returns-in_ok-after-in-Assign : goal.returns-in_ok-after-in-Assign
returns-in_ok-after-in-Assign c = makes_same _ _ _ _ c.in-Assign.is c.in_ok-after-in-Assign.ensures

pub returns-in_ok-after-in-Duplicate : goal.returns-in_ok-after-in-Duplicate
returns-in_ok-after-in-Duplicate c = makes_double _ _ _ c.in-Duplicate.is c.in_ok-after-in-Duplicate.ensures

pub returns-in_ok-after-in-Cite : goal.returns-in_ok-after-in-Cite
returns-in_ok-after-in-Cite c = makes_cite _ _ _ c.in-Cite.is c.in_ok-after-in-Cite.ensures

pub returns-in_ok-after-in-Type : goal.returns-in_ok-after-in-Type
returns-in_ok-after-in-Type c = makes_type _ _ _ c.in-Type.is c.in_ok-after-in-Type.ensures
