use Rattle.std.proofs.Common.{◌≡◌, ◌++◌, length, flat_map}
use Rattle.bt_text.specs.Purification.{purified_symbol}
use Rattle.bt_text.specs.Special.{symbols}
use Rattle.bt_text.proofs.purification.push_pure_special.Given as goal

abbrev pub invariant-walk : goal.invariant-walk
invariant-walk l = l.out.items ++ flat_map purified_symbol (symbols l.rest) ≡ l.initial.out.items ++ flat_map purified_symbol (symbols l.text)

abbrev pub decreases-walk : goal.decreases-walk
decreases-walk l = length l.rest
