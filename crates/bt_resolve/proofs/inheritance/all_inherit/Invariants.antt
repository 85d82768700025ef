use Rattle.std.proofs.Common.{◌≡◌, drop}
use Rattle.bt_resolve.specs.inner.Inheritance.{all_inherit}
use Rattle.bt_resolve.proofs.inheritance.all_inherit.Given as goal

abbrev pub invariant-places : goal.invariant-places
invariant-places l = all_inherit l.family l.values (drop l.place-index l.places) ≡ all_inherit l.family l.initial.values l.places
