use Rattle.std.proofs.Common.{◌≡◌, ◌+◌, ◌*◌, ◌≤◌, length, sum_by}
use Rattle.bt_text.specs.Special.{symbols}
use Rattle.bt_text.specs.Widths.{symbol_width}
use Rattle.bt_text.proofs.widths.special_width.Given as goal

abbrev pub invariant-loop-rest : goal.invariant-loop-rest
invariant-loop-rest l = (l.total + 1028 * length l.rest ≤ 1028 * length l.text) × (l.total + sum_by symbol_width (symbols l.rest) ≡ sum_by symbol_width (symbols l.text))

abbrev pub decreases-loop-rest : goal.decreases-loop-rest
decreases-loop-rest l = length l.rest
