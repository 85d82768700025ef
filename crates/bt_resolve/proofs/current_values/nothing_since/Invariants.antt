use Rattle.std.proofs.Common.{◌≡◌, replicate, None}
use Rattle.bt_resolve.proofs.current_values.nothing_since.Given as goal

abbrev pub invariant-entries : goal.invariant-entries
invariant-entries l = l.since ≡ replicate l._entry None
