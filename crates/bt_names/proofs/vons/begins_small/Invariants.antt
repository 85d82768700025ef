use Rattle.std.proofs.Common.{◌≡◌, length}
use Rattle.bt_names.specs.Vons.{begins_small}
use Rattle.bt_names.proofs.vons.begins_small.Given as goal

abbrev pub invariant-walk : goal.invariant-walk
invariant-walk l = begins_small l.rest ≡ begins_small l.text

abbrev pub decreases-walk : goal.decreases-walk
decreases-walk l = length l.rest
