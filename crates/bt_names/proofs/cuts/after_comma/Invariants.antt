use Rattle.std.proofs.Common.{◌≡◌, length}
use Rattle.bt_names.specs.inner.Cuts.{other_sections}
use Rattle.bt_names.proofs.cuts.after_comma.Given as goal

abbrev pub invariant-walk : goal.invariant-walk
invariant-walk l = other_sections l.rest ≡ other_sections l.text

abbrev pub decreases-walk : goal.decreases-walk
decreases-walk l = length l.rest
