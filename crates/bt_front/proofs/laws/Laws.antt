-- The laws of the crate, which no code needs. `specs/laws` has what they say.
use Rattle.bt_front.specs.laws.Job.{PlainJobsStay, PlainStepsStay, TextsKeepTheirLines}
use Rattle.bt_front.proofs.laws.JobLemmas
use Rattle.bt_front.proofs.laws.TextLemmas

pub plain_jobs_stay : PlainJobsStay
plain_jobs_stay = JobLemmas.job_kept

pub plain_steps_stay : PlainStepsStay
plain_steps_stay = JobLemmas.steps_kept

pub texts_keep_their_lines : TextsKeepTheirLines
texts_keep_their_lines = TextLemmas.lines_kept
