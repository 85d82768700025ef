use Rattle.std.proofs.Common.{◌≡◌, drop}
use Rattle.std.specs.Prelude.{pos}
use Rattle.bt_machine.specs.inner.Substitution.{values_put}
use Rattle.bt_machine.proofs.substitution.put_numbers.Given as goal

abbrev pub invariant-places : goal.invariant-places
invariant-places l =
    values_put (pos 0) (drop l.place-index l.places) l.left l.base ≡ values_put (pos 0) l.places l.left l.fn.base
