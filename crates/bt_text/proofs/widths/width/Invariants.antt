use Rattle.std.proofs.Common.{◌≡◌, ◌+◌, ◌*◌, ◌≤◌, length}
use Rattle.bt_text.specs.Widths.{width_of}
use Rattle.bt_text.proofs.widths.width.Given as goal

abbrev pub invariant-walk : goal.invariant-walk
invariant-walk l = (l.total + 1028 * length l.rest ≤ 1028 * length l.text) × (l.total + width_of l.rest ≡ width_of l.text)

abbrev pub decreases-walk : goal.decreases-walk
decreases-walk l = length l.rest
