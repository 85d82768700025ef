-- What the new files mean after an edit that changes one entry.
use Rattle.std.specs.Prelude.{slice_get}
use Rattle.std.proofs.Common.{◌≡◌, ℕ, ◌<◌, List, ◌++◌, Some, Ok}
use Rattle.bt_style.specs.declared.style.Action.TheVariants.{Sort}
use Rattle.bt_style.specs.declared.style.Command.{Command}
use Rattle.bt_style.specs.Program.{Program}
use Rattle.bt_style.specs.Reader.{style_of}
use Rattle.bt_machine.specs.OwnEntry.{DependsOnInput}
use Rattle.bt_resolve.specs.declared.entry.Entry.{Entry as FoundEntry}
use Rattle.bt_job.specs.declared.citations.Citations.{Citations}
use Rattle.bt_job.specs.declared.files.File.{File}
use Rattle.bt_job.specs.Citations.{citations}
use Rattle.bt_run.specs.declared.course.Step.{Step}
use Rattle.bt_run.specs.Counts.{calls_at, counts_told}
use Rattle.bt_run.specs.Course.{Recorded}
use Rattle.bt_run.specs.Meaning.{meaning, trace}
use Rattle.bt_run.specs.ReadCommand.{Job, found_for, with_blank_variables}
use Rattle.bt_run.specs.inner.Beside.{AreBeside, Difference, FindsChanged, SortsAt, beside, commands_run, first_of}
use Rattle.bt_run.specs.inner.WalkContext.{IsOnlyRead}
use Rattle.bt_run.specs.inner.Cases.{bbl_of, job_for, shown_of, text_in}
use Rattle.bt_run.specs.inner.Course.{recorded}
use Rattle.bt_run.proofs.BesideMeaningLemmas.{beside_meaning, beside_trace, run_trace}
use Rattle.bt_run.proofs.OnlyReadLemmas.{runs_beside}

-- Both texts of files have the same citations and the same style.
module _ (was files : List File) (root : List ℕ) (min : ℕ) (c : Citations) (name text : List ℕ) (p : Program) (cited_was : c ≡ citations was root) (cited : c ≡ citations files root) (named : c.style ≡ Some name) (was_text : text ≡ text_in was name) (is_text : text ≡ text_in files name) (read : style_of text ≡ Ok p)
    (law : DependsOnInput p) (n : ℕ) (key : List ℕ) (d : FoundEntry) (number : ℕ) (only : IsOnlyRead number p.commands) (found : FindsChanged n key d (found_for (job_for was c min name p) number) (found_for (job_for files c min name p) number) p) where
  abbrev job : Job
  job = job_for was c min name p

  abbrev before : Recorded (List Step)
  before = commands_run job c.log

  abbrev pub at_first : Difference
  at_first = first_of p (with_blank_variables p d)

  -- the old steps
  pub steps_before : before.seen ≡ trace was root min
  steps_before = run_trace was root min c name text p cited_was named was_text read

  module _ (last : Difference) (us : List Step) (is : AreBeside p key at_first before.seen us last) (sorts : (k : ℕ) (e : Command) → number < k → slice_get p.commands k ≡ Some e → e.action ≡ Sort → SortsAt job c.log n key k at_first us) where
    pub run_now : commands_run (job_for files c min name p) c.log ≡ recorded (beside n last before.course) us
    run_now = runs_beside job law n key files d number only found c.log last us is sorts

    pub trace_now : us ≡ trace files root min
    trace_now = beside_trace was files root min c name text p cited_was cited named was_text is_text read n last us run_now

    pub meaning_now : shown_of (bbl_of us) (before.course.log ++ counts_told (calls_at us)) c.wanted ≡ meaning files root min
    meaning_now = beside_meaning was files root min c name text p cited_was cited named was_text is_text read n last us run_now
