use Rattle.std.proofs.Common.{◌≡◌, [], length, drop}
use Rattle.bt_machine.specs.inner.Substitution.{values_put}
use Rattle.bt_machine.proofs.substitution.put_texts.Given as goal

abbrev pub invariant-places : goal.invariant-places
invariant-places l = record {
  same : values_put [] (drop l.place-index l.places) l.left l.base ≡ values_put [] l.places l.left l.fn.base;
  counts : length l.left ≡ length l.base;
}
