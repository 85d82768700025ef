use Rattle.std.proofs.Common.{◌≡◌, drop}
use Rattle.bt_resolve.specs.inner.Heirs.{some_inherit}
use Rattle.bt_resolve.proofs.heirs.some_inherit.Given as goal

abbrev pub invariant-list : goal.invariant-list
invariant-list l = some_inherit l.family l.marks l.values (drop l.place-index l.list) ≡ some_inherit l.family l.marks l.initial.values l.list
