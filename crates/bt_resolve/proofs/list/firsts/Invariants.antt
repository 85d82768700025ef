use Rattle.std.proofs.Common.{◌≡◌, ◌++◌, [], ℕ, drop}
use Rattle.std.specs.Prelude.{nat_eq}
use Rattle.std.specs.HashSet.{contains}
use Rattle.bt_resolve.specs.Listed.{firsts, is_among}
use Rattle.bt_resolve.proofs.list.firsts.Given as goal

abbrev pub invariant-places : goal.invariant-places
invariant-places l = record {
  found : l.found.items ++ firsts l.found.items (drop l.place-index l.places) ≡ firsts [] l.places;
  seen : (p : ℕ) → contains nat_eq l.seen p ≡ is_among l.found.items p;
}
