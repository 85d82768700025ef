use Rattle.std.proofs.Common.{◌≡◌, ◌+◌, ◌≤◌, length}
use Rattle.bt_writing.specs.StyleNames.{alias_count}
use Rattle.bt_writing.proofs.style_names.alias_count.Given as goal

abbrev pub invariant-marks : goal.invariant-marks
invariant-marks l = record {
  within : l.count + length l.rest ≤ length l.marks;
  same : l.count + alias_count l.text l.name l.rest ≡ alias_count l.text l.name l.marks;
}

abbrev pub decreases-marks : goal.decreases-marks
decreases-marks l = length l.rest
