use Rattle.std.proofs.Common.{◌≡◌, take}
use Rattle.bt_marks.specs.Bytes.{line_bytes}
use Rattle.bt_marks.proofs.lines.line_bytes.Given as goal

abbrev pub invariant-line : goal.invariant-line
invariant-line l = l.bytes.items ≡ line_bytes (take l.written-index l.line)
