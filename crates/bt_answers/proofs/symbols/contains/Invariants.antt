use Rattle.std.proofs.Common.{◌≡◌, length}
use Rattle.bt_answers.specs.Symbols.{contains}
use Rattle.bt_answers.proofs.symbols.contains.Given as goal

abbrev pub invariant-places : goal.invariant-places
invariant-places l = contains l.query l.rest ≡ contains l.query l.text

abbrev pub decreases-places : goal.decreases-places
decreases-places l = length l.rest
