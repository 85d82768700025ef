use Rattle.std.proofs.Common.{◌≡◌, ◌++◌, ◌-◌, ◌≤◌, length, drop}
use Rattle.bt_text.specs.LineBreaks.{broken}
use Rattle.bt_text.proofs.line_breaks.break_lines.Given as goal

abbrev pub invariant-loop-place : goal.invariant-loop-place
invariant-loop-place l = (l.start ≤ length l.bytes.items) × (length l.bytes.items ≡ length l.initial.bytes.items) × (l.lines ++ (broken (drop l.start l.bytes.items)).lines ≡ (broken l.initial.bytes.items).lines) × ((broken (drop l.start l.bytes.items)).held ≡ (broken l.initial.bytes.items).held)

abbrev pub decreases-loop-place : goal.decreases-loop-place
decreases-loop-place l = length l.bytes.items - l.start
