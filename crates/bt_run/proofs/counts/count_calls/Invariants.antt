use Rattle.std.proofs.Common.{◌≡◌, ℕ, ◌<◌, take}
use Rattle.std.specs.Prelude.{slice_index_or}
use Rattle.bt_run.specs.Counts.{calls_at}
use Rattle.bt_run.proofs.counts.count_calls.Given as goal

abbrev pub invariant-steps : goal.invariant-steps
invariant-steps l = (place : ℕ) → place < 37 → slice_index_or l.calls place 0 ≡ calls_at (take l.step-index l.steps) place
