use Rattle.std.proofs.Common.{◌≡◌, ◌++◌, drop}
use Rattle.bt_marks.specs.Bytes.{lines_bytes}
use Rattle.bt_marks.proofs.lines.lines_bytes.Given as goal

abbrev pub invariant-lines : goal.invariant-lines
invariant-lines l = l.text ++ lines_bytes (drop l.line-index l.lines) ≡ lines_bytes l.lines
