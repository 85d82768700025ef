use Rattle.bt_front.proofs.JobRunLemmas.{run_same}
use Rattle.bt_session.proofs.session.AuthorSession.of.Goals as goal

pub invariant_of-result : goal.invariant_of-result
invariant_of-result c = run_same _ _ _ _ _ _ c.as_slice.ensures c.as_slice-2.ensures c.in_ok-job.ensures
