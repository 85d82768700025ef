use Rattle.std.proofs.Common.{◌≡◌, ◌-◌}
use Rattle.bt_resolve.specs.inner.Names.{places_from}
use Rattle.bt_text.specs.ByName.{known}
use Rattle.bt_resolve.proofs.index.place_table.Given as goal

abbrev pub invariant-names : goal.invariant-names
invariant-names l = known l.places ≡ places_from l.names (l.count - l.behind)
