use Rattle.std.proofs.Common.{◌≡◌, ◌++◌, length}
use Rattle.std.specs.List.{AllByRecursion}
use Rattle.bt_positions.specs.inner.LineStarts.{moved, CanMove}
use Rattle.bt_positions.proofs.splicing.push_moved.Given as goal

abbrev pub invariant-starts : goal.invariant-starts
invariant-starts l = record {
  bounds : AllByRecursion (CanMove l.from l.to) l.rest;
  same : l.all.items ++ moved l.from l.to l.rest ≡ l.fn.all.items ++ moved l.from l.to l.starts;
}

abbrev pub decreases-starts : goal.decreases-starts
decreases-starts l = length l.rest
