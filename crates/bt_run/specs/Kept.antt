-- What is kept of a run for the next one, and what the next one reports.
use Rattle.std.specs.Prelude.{◌-◌, ℕ, List, [], Option, Some, None, length, unwrap_or}
use Rattle.bt_job.specs.declared.files.File.{File}
use Rattle.bt_job.specs.FileNames.{text_of}
use Rattle.bt_job.specs.Citations.{citations}
use Rattle.bt_run.specs.declared.answers.Report.{Report}
use Rattle.bt_run.specs.declared.course.Step.{Step}
use Rattle.bt_run.specs.Work.{total_cost}
use Rattle.bt_run.specs.Steps.{work_after}
use Rattle.bt_run.specs.Meaning.{meaning, trace}

-- the text of the style of a run that names one; a name without a file counts as an empty text
abbrev pub named_text : List File → Option (List ℕ) → Option (List ℕ)
named_text files None = None
named_text files (Some name) = Some (unwrap_or (text_of files name) [])

-- the text of the style of a run
unfoldable pub style_text : List File → List ℕ → Option (List ℕ)
style_text files root = named_text files (citations files root).style

-- the work of a run after an earlier one, which kept these steps and whose style had this text
abbrev pub run_work : Option (List ℕ) → List Step → List File → List ℕ → ℕ → List Step
run_work text earlier files root min = work_after text earlier (style_text files root) (trace files root min)

-- The report of a run after an earlier one: how many steps are its work, how many others it has, and what the work
-- costs.
abbrev pub report_after : Option (List ℕ) → List Step → List File → List ℕ → ℕ → Report
report_after text earlier files root min =
    record {
      status = (meaning files root min).status;
      ran = length (run_work text earlier files root min);
      reused = length (trace files root min) - length (run_work text earlier files root min);
      ticks = total_cost (run_work text earlier files root min);
    }
