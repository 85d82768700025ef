use Rattle.std.proofs.Common.{◌≡◌, ◌++◌, drop}
use Rattle.bt_resolve.specs.inner.Cases.{cited_places}
use Rattle.bt_resolve.proofs.list.cited_places.Given as goal

abbrev pub invariant-keys : goal.invariant-keys
invariant-keys l = l.places.items ++ cited_places (drop l.key-index l.keys) l.family ≡ cited_places l.keys l.family
