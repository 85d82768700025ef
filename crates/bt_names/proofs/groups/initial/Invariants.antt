use Rattle.std.proofs.Common.{◌≡◌, length}
use Rattle.bt_names.specs.Spelling.{initial}
use Rattle.bt_names.proofs.groups.initial.Given as goal

abbrev pub invariant-walk : goal.invariant-walk
invariant-walk l = initial l.rest ≡ initial l.text

abbrev pub decreases-walk : goal.decreases-walk
decreases-walk l = length l.rest
