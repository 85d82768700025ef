use Rattle.bt_paper.proofs.FollowLemmas.{keeps_both}
use Rattle.bt_paper.proofs.session_paper.SessionPaper.complete.Goals as goal

pub rounds-preserved : goal.rounds-preserved
rounds-preserved g c = keeps_both _ _ _ c.rounds.invariant c.in_ok-fill.ensures
