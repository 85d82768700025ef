use Rattle.std.proofs.Common.{◌≡◌, ◌++◌, drop}
use Rattle.bt_stack.specs.inner.Moved.{made_bytes}
use Rattle.bt_stack.proofs.moving.copy_made.Given as goal

abbrev pub invariant-values : goal.invariant-values
invariant-values l = l.to.items ++ made_bytes l.pool (drop l.value-index l.values) ≡ l.initial.to.items ++ made_bytes l.pool l.values
