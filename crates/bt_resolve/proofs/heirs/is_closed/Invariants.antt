use Rattle.std.proofs.Common.{drop}
use Rattle.bt_resolve.specs.inner.Heirs.{IsClosed}
use Rattle.bt_resolve.proofs.heirs.is_closed.Given as goal

abbrev pub invariant-list : goal.invariant-list
invariant-list l = IsClosed l.family l.marks (drop l.k l.list) → IsClosed l.family l.marks l.list
