-- The run of a job whose files change.
use Rattle.std.specs.Prelude.{◌≡◌, ℕ, IsTrue, List, []}
use Rattle.bt_job.specs.declared.files.File.{File}
use Rattle.bt_log.specs.Log.{log_bytes, terse_bytes}
use Rattle.bt_run.specs.declared.answers.Run.{Run}
use Rattle.bt_run.specs.declared.kept.Kept.{Kept}
use Rattle.bt_run.specs.Kept.{style_text}
use Rattle.bt_run.specs.Meaning.{Meaning, meaning, trace}
use Rattle.bt_run.specs.Shown.{meaning_of}
use Rattle.bt_run.specs.inner.Unseen.{AreTextsOf}
use Rattle.bt_front.specs.declared.job.UnderNames.{UnderNames}
use Rattle.bt_front.specs.declared.job_run.JobRun.{JobRun}
use Rattle.bt_front.specs.Job.{table_of, told_under, job_meaning, job_trace}

-- Both logs are what the messages are in words.
pub record IsLogged (m : Meaning) : Type 0 where
  pub blg : m.blg ≡ log_bytes m.messages
  pub terse : m.terse ≡ terse_bytes m.messages

-- A run is that of a job under the session's names, and shows the author's.
pub record IsRunUnder (job : UnderNames) (min : ℕ) (run : Run) : Type 0 where
  pub shown : meaning_of run.answers ≡ told_under job.names (meaning job.files job.root min)
  pub steps : run.kept.steps ≡ trace job.files job.root min
  pub text : run.kept.text ≡ style_text job.files job.root
  pub texts : AreTextsOf job.files job.root run.kept

-- The job needs no other names, and this was kept of the run of its own files.
pub record IsPlain (files : List File) (root : List ℕ) (kept : Kept) : Type 0 where
  pub none : table_of files root ≡ []
  pub text : kept.text ≡ style_text files root
  pub texts : AreTextsOf files root kept

-- a run is that of a job with these files
pub record IsRunOfJob (files : List File) (root : List ℕ) (min : ℕ) (job : JobRun) : Type 0 where
  pub shown : meaning_of job.run.answers ≡ job_meaning files root min
  pub steps : job.run.kept.steps ≡ job_trace files root min
  pub plain : IsTrue job.is_plain → IsPlain files root job.run.kept
