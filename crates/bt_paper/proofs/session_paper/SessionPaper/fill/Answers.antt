use Rattle.bt_paper.proofs.FollowLemmas.{keeps_both}
use Rattle.bt_paper.proofs.session_paper.SessionPaper.fill.Goals as goal

pub names-preserved : goal.names-preserved
names-preserved g c = keeps_both _ _ _ c.names.invariant c.in_ok-taken.ensures
