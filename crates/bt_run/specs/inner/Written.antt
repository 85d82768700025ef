-- What a run that keeps no steps keeps of them.
use Rattle.std.specs.Prelude.{ℕ, ◌<◌, ◌+◌, List, ◌++◌, slice_index_or}
use Rattle.bt_log.specs.Log.{lines_bytes}
use Rattle.bt_run.specs.declared.course.Step.{Step}

-- the bibliography so far, and how often the function at each of the 37 places was called
pub record Written : Type 0 where
  pub bbl : List ℕ
  pub calls : (place : ℕ) → place < 37 → ℕ

abbrev pub written : List ℕ → List ℕ → Written
written bbl calls = record { bbl = bbl; calls = λ place within. slice_index_or calls place 0 }

abbrev pub with_step : Written → Step → Written
with_step w s = record {
  bbl = w.bbl ++ lines_bytes s.outcome.lines;
  calls = λ place within. w.calls place within + slice_index_or s.outcome.calls place 0;
}
