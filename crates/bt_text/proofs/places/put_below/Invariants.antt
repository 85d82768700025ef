use Rattle.std.proofs.Common.{◌≡◌, ◌++◌, drop}
use Rattle.bt_text.specs.inner.Merging.{below, above}
use Rattle.bt_text.proofs.places.put_below.Given as goal

abbrev pub invariant-others : goal.invariant-others
invariant-others l = record {
  put : l.all.items ++ below l.place (drop l.i l.others) ≡ l.initial.all.items ++ below l.place l.others;
  left : above l.place (drop l.i l.others) ≡ above l.place l.others;
}
