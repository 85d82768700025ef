use Rattle.std.proofs.Common.{◌≡◌, ◌++◌, length}
use Rattle.bt_style_text.specs.Outline.{symbols_of, symbols_from}
use Rattle.bt_style_text.proofs.outline.symbols_of.Given as goal

abbrev pub invariant-marks : goal.invariant-marks
invariant-marks l = l.found.items ++ symbols_from l.start l.rest ≡ symbols_of l.marks

abbrev pub decreases-marks : goal.decreases-marks
decreases-marks l = length l.rest
