use Rattle.std.proofs.Common.{◌≡◌, ◌++◌, drop}
use Rattle.bt_text.specs.inner.Merging.{merged}
use Rattle.bt_text.proofs.places.merged.Given as goal

abbrev pub invariant-texts : goal.invariant-texts
invariant-texts l = l.all.items ++ merged l.count (drop l.place-index l.texts) l.rest ≡ merged l.count l.texts l.others
