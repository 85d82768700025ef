use Rattle.std.proofs.Common.{◌≡◌, ◌≤◌, ◌+◌, ◌*◌, length}
use Rattle.bt_positions.specs.Units.{width}
use Rattle.bt_positions.proofs.counting.counted_width.Given as goal

abbrev pub invariant-bytes : goal.invariant-bytes
invariant-bytes l = record {
  few : l.count + 2 * length l.rest ≤ 2 * length l.bytes;
  same : l.count + width l.counting l.rest ≡ width l.counting l.bytes;
}

abbrev pub decreases-bytes : goal.decreases-bytes
decreases-bytes l = length l.rest
