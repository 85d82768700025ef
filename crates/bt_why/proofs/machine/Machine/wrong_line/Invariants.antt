use Rattle.std.proofs.Common.{take}
use Rattle.bt_why.specs.Named.{AreRight}
use Rattle.bt_why.proofs.machine.Machine.wrong_line.Given as goal

abbrev pub invariant-lines : goal.invariant-lines
invariant-lines l = AreRight l.self (take l.number l.lines)
