use Rattle.std.proofs.Common.{◌≡◌}
use Rattle.bt_resolve.specs.inner.Heirs.{with_made}
use Rattle.bt_resolve.proofs.seen_edit.put_made.Given as goal

abbrev pub invariant-made : goal.invariant-made
invariant-made l = l.entries ≡ with_made l.yielded l.initial.entries
