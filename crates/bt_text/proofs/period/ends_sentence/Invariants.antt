use Rattle.std.proofs.Common.{◌≡◌, length}
use Rattle.bt_text.specs.inner.Endings.{last_counting}
use Rattle.bt_text.proofs.period.ends_sentence.Given as goal

abbrev pub invariant-walk : goal.invariant-walk
invariant-walk l = last_counting l.rest ≡ last_counting l.text

abbrev pub decreases-walk : goal.decreases-walk
decreases-walk l = length l.rest
