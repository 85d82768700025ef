use Rattle.std.proofs.Common.{false}
use Rattle.bt_why.specs.Named.{IsRight}
use Rattle.bt_why.proofs.machine.Machine.is_right.Given as goal

-- if the byte is right from the mark at hand on, it is right
abbrev pub invariant-marks : goal.invariant-marks
invariant-marks l = IsRight l.self l.marked.byte l.marked.at l.is_made l.number → IsRight l.self l.marked.byte l.marked.at false l.marked.mark
