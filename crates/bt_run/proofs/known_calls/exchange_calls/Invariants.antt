use Rattle.std.proofs.Common.{◌≡◌, ℕ, ◌+◌, ◌≤◌, ◌<◌, slice_index_or}
use Rattle.bt_run.proofs.known_calls.exchange_calls.Given as goal

-- what was exchanged so far, and what is as before
abbrev pub invariant-places : goal.invariant-places
invariant-places l = record {
  exchanged : (k : ℕ) → k < l.place →
      slice_index_or l.sums k 0 + slice_index_or l.old k 0 ≡ slice_index_or l.fn.sums k 0 + slice_index_or l.new k 0;
  left : (k : ℕ) → l.place ≤ k → slice_index_or l.sums k 0 ≡ slice_index_or l.fn.sums k 0;
}
