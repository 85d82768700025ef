use Rattle.std.proofs.Common.{◌≡◌, ◌+◌, ◌≤◌, length}
use Rattle.bt_style_text.specs.Uses.{set_count}
use Rattle.bt_style_text.proofs.uses.set_count.Given as goal

abbrev pub invariant-marks : goal.invariant-marks
invariant-marks l = record {
  within : l.count + length l.rest ≤ length l.marks;
  same : l.count + set_count l.text l.name l.rest ≡ set_count l.text l.name l.marks;
}

abbrev pub decreases-marks : goal.decreases-marks
decreases-marks l = length l.rest
