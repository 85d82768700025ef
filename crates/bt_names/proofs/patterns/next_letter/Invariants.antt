use Rattle.std.proofs.Common.{◌≡◌, ◌-◌, ◌≤◌, length, take}
use Rattle.bt_text.specs.Depth.{depth}
use Rattle.bt_names.specs.Patterns.{letters_from}
use Rattle.bt_names.proofs.patterns.next_letter.Given as goal

abbrev pub invariant-walk : goal.invariant-walk
invariant-walk l = (l.depth ≡ depth (take l.place l.text)) × (l.depth ≤ l.place) × (letters_from l.text l.place ≡ letters_from l.text l.start)

abbrev pub decreases-walk : goal.decreases-walk
decreases-walk l = length l.text - l.place
