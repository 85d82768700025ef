use Rattle.std.proofs.Common.{◌≡◌, ◌+◌, ◌++◌, length}
use Rattle.bt_positions.specs.inner.LineStarts.{line_starts}
use Rattle.bt_positions.proofs.lines.line_starts.Given as goal

abbrev pub invariant-ends : goal.invariant-ends
invariant-ends l = record {
  within : l.place + length l.rest ≡ length l.text;
  same : l.starts.items ++ line_starts l.lines l.place l.rest ≡ line_starts l.lines 0 l.text;
}

abbrev pub decreases-ends : goal.decreases-ends
decreases-ends l = length l.rest
