-- How often steps called each built-in function, by its place in the table.
use Rattle.std.specs.Prelude.{◌≡◌, ◌+◌, ◌<◌, ℕ, List, drop, slice_index_or}
use Rattle.bt_run.specs.declared.course.Step.{Step}
use Rattle.bt_run.specs.Counts.{calls_at}

-- the calls of steps
abbrev pub AreCalls : List Step → List ℕ → Type 0
AreCalls steps calls = (place : ℕ) → place < 37 → slice_index_or calls place 0 ≡ calls_at steps place

-- the calls of steps, and of those of an earlier run from a place on
abbrev pub AreCallsFrom : List Step → ℕ → List Step → List ℕ → Type 0
AreCallsFrom earlier n steps calls = (place : ℕ) → place < 37 →
    slice_index_or calls place 0 ≡ calls_at steps place + calls_at (drop n earlier) place

-- sums before and after one step's calls took the place of another's
abbrev pub AreExchanged : List ℕ → List ℕ → List ℕ → List ℕ → Type 0
AreExchanged before after old new = (place : ℕ) → place < 37 →
    slice_index_or after place 0 + slice_index_or old place 0 ≡ slice_index_or before place 0 + slice_index_or new place 0
