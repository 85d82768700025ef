use Rattle.bt_paper.proofs.FollowLemmas.{follows_kept}
use Rattle.bt_paper.proofs.session_paper.SessionPaperPaper.refresh.Goals as goal

pub known-preserved : goal.known-preserved
known-preserved g c = λ f. c.in_ok-reread.ensures (c.known.invariant f)

pub returns : goal.returns
returns g c = λ f. follows_kept _ _ _ c.complete.ensures (c.known.invariant f)
