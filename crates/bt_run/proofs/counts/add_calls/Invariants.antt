use Rattle.std.proofs.Common.{◌≡◌, ℕ, ◌+◌, ◌≤◌, ◌<◌}
use Rattle.std.specs.Prelude.{slice_index_or}
use Rattle.bt_run.proofs.counts.add_calls.Given as goal

-- what was added so far, and what is as before
abbrev pub invariant-places : goal.invariant-places
invariant-places l = record {
  added : (k : ℕ) → k < l.place → slice_index_or l.sums k 0 ≡ slice_index_or l.fn.sums k 0 + slice_index_or l.calls k 0;
  left : (k : ℕ) → l.place ≤ k → slice_index_or l.sums k 0 ≡ slice_index_or l.fn.sums k 0;
}
