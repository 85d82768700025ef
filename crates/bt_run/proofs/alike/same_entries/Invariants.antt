use Rattle.std.proofs.Common.{◌≡◌, length}
use Rattle.bt_run.specs.inner.Earlier.{AreSame}
use Rattle.bt_run.proofs.alike.same_entries.Given as goal

abbrev pub invariant-places : goal.invariant-places
invariant-places l = record {
  same : AreSame l.entries l.others l.same;
  counted : length l.same ≡ l.place;
}
