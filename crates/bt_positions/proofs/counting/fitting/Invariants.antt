use Rattle.std.proofs.Common.{◌≡◌, ◌+◌, length}
use Rattle.bt_positions.specs.Units.{fitting}
use Rattle.bt_positions.specs.Lines.{first_line}
use Rattle.bt_positions.proofs.counting.fitting.Given as goal

abbrev pub invariant-bytes : goal.invariant-bytes
invariant-bytes l = record {
  within : l.place + length l.rest ≡ length l.text;
  same : l.place + fitting l.counting l.left (first_line l.rest) ≡ fitting l.counting l.character (first_line l.text);
}

abbrev pub decreases-bytes : goal.decreases-bytes
decreases-bytes l = length l.rest
