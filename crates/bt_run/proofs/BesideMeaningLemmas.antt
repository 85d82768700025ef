-- What the new files mean, by the new run beside the old one.
use Rattle.std.proofs.Common.{◌≡◌, refl, sym, ap, ◌∙◌, ℕ, List, ◌++◌, Some, Ok}
use Rattle.bt_style.specs.Program.{Program}
use Rattle.bt_style.specs.Reader.{style_of}
use Rattle.bt_job.specs.declared.citations.Citations.{Citations}
use Rattle.bt_job.specs.declared.files.File.{File}
use Rattle.bt_job.specs.Citations.{citations}
use Rattle.bt_run.specs.declared.course.Step.{Step}
use Rattle.bt_run.specs.Counts.{calls_at, counts_told}
use Rattle.bt_run.specs.Course.{Recorded}
use Rattle.bt_run.specs.Meaning.{meaning, trace}
use Rattle.bt_run.specs.inner.Beside.{Difference, beside, commands_run}
use Rattle.bt_run.specs.inner.Cases.{bbl_of, job_for, run_with, shown_of, text_in, with_counts}
use Rattle.bt_run.specs.inner.Course.{recorded}
use Rattle.bt_run.specs.inner.Steps.{run_shown}
use Rattle.bt_run.proofs.AnswerLemmas.{kept_steps, meant, style_read}

-- a run under a style that could be read
module _ (files : List File) (root : List ℕ) (min : ℕ) (c : Citations) (name text : List ℕ) (p : Program) (cited : c ≡ citations files root) (named : c.style ≡ Some name) (is_text : text ≡ text_in files name) (read : style_of text ≡ Ok p) where
  abbrev run : Recorded (List Step)
  run = commands_run (job_for files c min name p) c.log

  whole : with_counts run ≡ run_with files c min c.style
  whole = style_read files c min name name name text c.databases p named refl refl read is_text refl

  pub run_trace : run.seen ≡ trace files root min
  run_trace = kept_steps files root min c (with_counts run) whole cited

  pub run_meaning : run_shown (with_counts run) c.wanted ≡ meaning files root min
  run_meaning = meant files root min c (with_counts run) c.wanted (run_shown (with_counts run) c.wanted) refl whole refl cited

module _ (was files : List File) (root : List ℕ) (min : ℕ) (c : Citations) (name text : List ℕ) (p : Program) (cited_was : c ≡ citations was root) (cited : c ≡ citations files root) (named : c.style ≡ Some name) (was_text : text ≡ text_in was name) (is_text : text ≡ text_in files name) (read : style_of text ≡ Ok p)
    (n : ℕ) (last : Difference) (us : List Step) (is : commands_run (job_for files c min name p) c.log ≡ recorded (beside n last (commands_run (job_for was c min name p) c.log).course) us) where
  abbrev before : Recorded (List Step)
  before = commands_run (job_for was c min name p) c.log

  -- the steps
  pub beside_trace : us ≡ trace files root min
  beside_trace =
      sym (ap (λ (r : Recorded (List Step)). r.seen) is) ∙ run_trace files root min c name text p cited named is_text read

  -- What the files mean now. The log before the counts is that of the files before.
  pub beside_meaning : shown_of (bbl_of us) (before.course.log ++ counts_told (calls_at us)) c.wanted ≡ meaning files root min
  beside_meaning =
      ap (λ (r : Recorded (List Step)). run_shown (with_counts r) c.wanted) (sym is)
      ∙ run_meaning files root min c name text p cited named is_text read
