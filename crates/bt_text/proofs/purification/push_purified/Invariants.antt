use Rattle.std.proofs.Common.{◌≡◌, ◌++◌, length}
use Rattle.bt_text.specs.Purification.{purified}
use Rattle.bt_text.proofs.purification.push_purified.Given as goal

abbrev pub invariant-walk : goal.invariant-walk
invariant-walk l = l.out.items ++ purified l.rest ≡ l.fn.out.items ++ purified l.text

abbrev pub decreases-walk : goal.decreases-walk
decreases-walk l = length l.rest
