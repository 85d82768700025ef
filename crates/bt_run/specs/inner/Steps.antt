-- The steps of an earlier run, and what a run over them has taken of them, where the style's text may have changed.
use Rattle.std.specs.Prelude.{◌≡◌, ◌≤◌, ℕ, List, [], Option, Some, None, length, slice_index_or, bytes_eq, if◌then◌else◌}
use Rattle.bt_run.specs.declared.course.Step.{Step}
use Rattle.bt_run.specs.declared.reuse.Reuse.{Reuse}
use Rattle.bt_run.specs.Course.{Recorded}
use Rattle.bt_run.specs.Meaning.{Meaning}
use Rattle.bt_run.specs.inner.Cases.{bbl_of, shown_of}
use Rattle.bt_run.specs.Work.{total_cost}
use Rattle.bt_run.specs.Steps.{StepsAre, work_after}

-- an earlier run's steps, where its style had this text
abbrev pub steps_under : Option (List ℕ) → List Step → List ℕ → List Step
steps_under None steps text = []
steps_under (Some own) steps text = if bytes_eq own text then steps else []

-- what a run shows
abbrev pub run_shown : Recorded (List Step) → List (List ℕ) → Meaning
run_shown r wanted = shown_of (bbl_of r.seen) r.course.log wanted

-- how often the function at a place was called, by a list of all places
abbrev pub calls_in : List ℕ → ℕ → ℕ
calls_in calls place = slice_index_or calls place 0

-- What was carried out is the work of a run's steps, which are those of its style.
pub record IsTaken (own : Option (List ℕ)) (earlier : List Step) (text : Option (List ℕ)) (steps : List Step)
    (reuse : Reuse) : Type 0 where
  pub ran : reuse.ran ≡ length (work_after own earlier text steps)
  pub ticks : reuse.meter ≡ total_cost (work_after own earlier text steps)
  pub fewer : reuse.ran ≤ length steps
  pub true_steps : StepsAre text steps
