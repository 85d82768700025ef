use Rattle.bt_style.proofs.ReachedLemmas.{each_ok, held_tells, preamble_tells, kind_tells}
use Rattle.bt_style.proofs.style.Style.reach.Goals as goal

pub returns-clause-held : goal.returns-clause-held
returns-clause-held c = each_ok c.into_reach.result _ held_tells

pub returns-clause-preamble : goal.returns-clause-preamble
returns-clause-preamble c = each_ok c.into_reach.result _ preamble_tells

pub returns-clause-kind : goal.returns-clause-kind
returns-clause-kind c = each_ok c.into_reach.result _ kind_tells
