use Rattle.std.proofs.Common.{◌≡◌, map, take}
use Rattle.bt_marks.specs.Bytes.{line_bytes}
use Rattle.bt_why.proofs.rerun.plain_lines.Given as goal

abbrev pub invariant-lines : goal.invariant-lines
invariant-lines l = l.plain.items ≡ map (λ line. line_bytes line.items) (take l.line-index l.lines)
