use Rattle.std.proofs.Common.{◌∙◌}
use Rattle.bt_paper.proofs.beginning.filled.Goals as goal

pub rounds-preserved : goal.rounds-preserved
rounds-preserved g c = (c.in_ok-fill.ensures.0 ∙ c.rounds.invariant.0, c.in_ok-fill.ensures.1 ∙ c.rounds.invariant.1)
