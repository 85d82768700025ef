use Rattle.std.proofs.Common.{take}
use Rattle.bt_why.specs.Named.{IsLineRight}
use Rattle.bt_why.proofs.machine.Machine.is_line_right.Given as goal

abbrev pub invariant-line : goal.invariant-line
invariant-line l = IsLineRight l.self (take l.written-index l.line)
