use Rattle.bt_resolve.specs.Names.{place_of_name}
use Rattle.bt_resolve.specs.inner.Names.{AreKnown}
use Rattle.bt_resolve.proofs.index.all_known.Given as goal

abbrev pub invariant-names : goal.invariant-names
invariant-names l = AreKnown (place_of_name l.names) l.slots.items
