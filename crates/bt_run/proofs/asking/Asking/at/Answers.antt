use Rattle.std.proofs.Common.{refl}
use Rattle.bt_run.specs.inner.JobView.{job_of}
use Rattle.bt_run.proofs.FindingLemmas.{asked_at}
use Rattle.bt_run.proofs.asking.Asking.at.Goals as goal

pub returns : goal.returns
returns c = asked_at (job_of c.args.job) c.args.number _ c.in_ok-declared.ensures c.in_ok-shared_cites.ensures c.in_ok-texts.ensures refl
