use Rattle.std.proofs.Common.{◌≡◌, ◌≤◌, take}
use Rattle.bt_text.specs.Depth.{depth}
use Rattle.bt_text.proofs.depth.depth_of.Given as goal

abbrev pub invariant-loop-byte : goal.invariant-loop-byte
invariant-loop-byte l = (l.depth ≤ l.byte-index) × (l.depth ≡ depth (take l.byte-index l.text))
