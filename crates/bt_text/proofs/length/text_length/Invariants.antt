use Rattle.std.proofs.Common.{◌≡◌, ◌+◌, ◌≤◌, length}
use Rattle.bt_text.specs.Length.{text_length_of}
use Rattle.bt_text.proofs.length.text_length.Given as goal

abbrev pub invariant-walk : goal.invariant-walk
invariant-walk l = (l.count + length l.rest ≤ length l.text) × (l.count + text_length_of l.rest ≡ text_length_of l.text)

abbrev pub decreases-walk : goal.decreases-walk
decreases-walk l = length l.rest
