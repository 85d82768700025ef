use Rattle.std.proofs.Common.{◌≡◌, take}
use Rattle.bt_resolve.specs.Values.{MacroTexts, joined_parts}
use Rattle.bt_resolve.proofs.skeleton.is_same_value.Given as goal

abbrev pub invariant-parts : goal.invariant-parts
invariant-parts l = (m : MacroTexts) → joined_parts m (take l.k l.old) ≡ joined_parts m (take l.k l.new)
