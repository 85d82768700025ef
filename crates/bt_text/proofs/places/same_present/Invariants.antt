use Rattle.std.proofs.Common.{◌≡◌, drop}
use Rattle.bt_text.specs.inner.Merging.{same_present}
use Rattle.bt_text.proofs.places.same_present.Given as goal

abbrev pub invariant-texts : goal.invariant-texts
invariant-texts l = same_present (drop l.i l.texts) (drop l.i l.others) ≡ same_present l.texts l.others
