use Rattle.std.proofs.Common.{◌≡◌, length}
use Rattle.bt_positions.specs.inner.Marks.{marks_of}
use Rattle.bt_positions.proofs.marks.marks_of.Given as goal

abbrev pub invariant-marks : goal.invariant-marks
invariant-marks l = record {
  count : length l.all.items ≡ l.count;
  same : l.all.items ≡ marks_of l.counting l.count l.text;
}
