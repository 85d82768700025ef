-- The new run, after an edit that changes one entry.
use Rattle.std.specs.Prelude.{◌≡◌, ◌-◌, ℕ, List, length}
use Rattle.bt_job.specs.declared.files.File.{File}
use Rattle.bt_run.specs.declared.answers.Report.{Report}
use Rattle.bt_run.specs.declared.answers.Run.{Run}
use Rattle.bt_run.specs.declared.change.Change.{Change}
use Rattle.bt_run.specs.declared.kept.Kept.{Kept}
use Rattle.bt_run.specs.declared.follow.NewRun.{NewRun}
use Rattle.bt_run.specs.Kept.{report_after, style_text}
use Rattle.bt_run.specs.Meaning.{meaning, trace}
use Rattle.bt_run.specs.Shown.{meaning_of}
use Rattle.bt_run.specs.inner.Cases.{bbl_of}
use Rattle.bt_run.specs.inner.Put.{GoesOver, IsPartOf, IsPutBeside, with_bbl_of}
use Rattle.bt_run.specs.inner.Unseen.{AreTextsOf}
use Rattle.bt_run.specs.inner.Walk.{with_steps}

-- The run is still the same, and what READ found was found in the databases of these files, if the run says so.
pub record IsStill (files : List File) (root : List ℕ) (was now : Run) : Type 0 where
  pub answers : now.answers ≡ was.answers
  pub text : now.kept.text ≡ was.kept.text
  pub steps : now.kept.steps ≡ was.kept.steps
  pub texts : AreTextsOf files root now.kept

-- the report of the new run, which has this many steps
abbrev pub IsReportOf : NewRun → ℕ → Report → Type 0
IsReportOf new count report =
    report ≡ record {
      status = new.answers.status;
      ran = new.walk.reuse.ran;
      reused = count - new.walk.reuse.ran;
      ticks = new.walk.reuse.meter;
    }

-- a new run is that of the new files
pub record IsNewRun (h : Change) (run : Run) (new : NewRun) : Type 0 where
  pub put : IsPutBeside run.kept new.place new.walk
  pub part : IsPartOf new.part run.answers.bbl (bbl_of (with_steps run.kept.steps new.walk.steps))
  pub shown : meaning_of (with_bbl_of (with_steps run.kept.steps new.walk.steps) new.answers) ≡ meaning h.files.now h.root.now h.min
  pub text : run.kept.text ≡ style_text h.files.now h.root.now
  pub steps : with_steps run.kept.steps new.walk.steps ≡ trace h.files.now h.root.now h.min
  pub texts : (now : Kept) → GoesOver run.kept.resolution now.resolution → AreTextsOf h.files.now h.root.now now
  pub report : (r : Report) → IsReportOf new (length run.kept.steps) r →
      r ≡ report_after run.kept.text run.kept.steps h.files.now h.root.now h.min
