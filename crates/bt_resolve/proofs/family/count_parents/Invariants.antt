use Rattle.std.proofs.Common.{◌≡◌, ℕ, take, count_by}
use Rattle.bt_resolve.specs.inner.Family.{count_at}
use Rattle.bt_resolve.specs.inner.Cases.{is_place}
use Rattle.bt_resolve.proofs.family.count_parents.Given as goal

abbrev pub invariant-parents : goal.invariant-parents
invariant-parents l = (p : ℕ) → count_at l.counts p ≡ count_by (is_place p) (take l.parent-index l.parents)
