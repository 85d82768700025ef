use Rattle.std.proofs.Common.{◌≡◌, ◌-◌, ◌≤◌, length, drop}
use Rattle.bt_text.specs.Blocks.{blocks}
use Rattle.bt_names.specs.Patterns.{fault_of_blocks, moved_by, pattern_fault}
use Rattle.bt_names.proofs.patterns.pattern_fault.Given as goal

abbrev pub invariant-walk : goal.invariant-walk
invariant-walk l = (l.start ≤ length l.pattern) × (moved_by l.start (fault_of_blocks (blocks (drop l.start l.pattern))) ≡ pattern_fault l.pattern)

abbrev pub decreases-walk : goal.decreases-walk
decreases-walk l = length l.pattern - l.start
