use Rattle.std.proofs.Common.{◌≡◌, ◌++◌, drop}
use Rattle.bt_resolve.specs.inner.Inheritance.{shown_among}
use Rattle.bt_resolve.proofs.view.View.shown_among.Given as goal

abbrev pub invariant-places : goal.invariant-places
invariant-places l = l.shown ++ shown_among l.self (drop l.k l.places) ≡ shown_among l.self l.places
