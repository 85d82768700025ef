use Rattle.std.proofs.Common.{◌≡◌}
use Rattle.bt_resolve.specs.Names.{place_of_name}
use Rattle.bt_resolve.specs.inner.Names.{places_from}
use Rattle.bt_resolve.proofs.index.place_of.Given as goal

abbrev pub invariant-names : goal.invariant-names
invariant-names l = places_from l.names l.place l.name ≡ place_of_name l.names l.name
