use Rattle.std.proofs.Common.{◌≡◌, take}
use Rattle.bt_text.proofs.places.copied.Given as goal

abbrev pub invariant-texts : goal.invariant-texts
invariant-texts l = l.same.items ≡ take l.place-index l.present
