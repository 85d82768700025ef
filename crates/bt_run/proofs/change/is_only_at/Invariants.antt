use Rattle.std.specs.Prelude.{◌==◌, bytes_eq, slice_index_or}
use Rattle.std.proofs.Common.{◌≡◌, ◌<◌, ℕ, []}
use Rattle.bt_run.proofs.change.is_only_at.Given as goal

abbrev pub invariant-names : goal.invariant-names
invariant-names l = (k : ℕ) → k < l.place → bytes_eq l.name (slice_index_or l.names k []) ≡ (k == l.number)
