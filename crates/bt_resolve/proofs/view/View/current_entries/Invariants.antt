use Rattle.std.specs.Prelude.{filter_map}
use Rattle.std.proofs.Common.{◌≡◌, take}
use Rattle.bt_resolve.specs.inner.Heirs.{made_at}
use Rattle.bt_resolve.proofs.view.View.current_entries.Given as goal

abbrev pub invariant-places : goal.invariant-places
invariant-places l = l.entries ≡ filter_map (made_at l.self.asked.now l.self.min l.self.family.now l.values) (take l.place-index l.places)
