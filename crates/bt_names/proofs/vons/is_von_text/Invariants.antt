use Rattle.std.proofs.Common.{◌≡◌, length}
use Rattle.bt_names.specs.Vons.{is_von_text}
use Rattle.bt_names.proofs.vons.is_von_text.Given as goal

abbrev pub invariant-walk : goal.invariant-walk
invariant-walk l = is_von_text l.rest ≡ is_von_text l.text

abbrev pub decreases-walk : goal.decreases-walk
decreases-walk l = length l.rest
