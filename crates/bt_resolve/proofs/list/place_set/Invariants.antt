use Rattle.std.proofs.Common.{◌≡◌, ℕ, take}
use Rattle.std.specs.Prelude.{nat_eq}
use Rattle.std.specs.HashSet.{contains}
use Rattle.bt_resolve.specs.Listed.{is_among}
use Rattle.bt_resolve.proofs.list.place_set.Given as goal

abbrev pub invariant-places : goal.invariant-places
invariant-places l = (p : ℕ) → contains nat_eq l.set p ≡ is_among (take l.place-index l.places) p
