use Rattle.std.proofs.Common.{◌≡◌, take}
use Rattle.bt_resolve.specs.inner.Heirs.{stays_among}
use Rattle.bt_resolve.proofs.heirs.stays_among.Given as goal

abbrev pub invariant-places : goal.invariant-places
invariant-places l = l.stays ≡ stays_among l.marks (take l.place-index l.places)
