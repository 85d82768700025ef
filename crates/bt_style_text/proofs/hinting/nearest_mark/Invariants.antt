use Rattle.std.proofs.Common.{◌≡◌, drop}
use Rattle.bt_style_text.specs.Hinting.{nearest_mark}
use Rattle.bt_style_text.proofs.hinting.nearest_mark.Given as goal

abbrev pub invariant-marks : goal.invariant-marks
invariant-marks l =
    nearest_mark l.text l.name l.best (drop l.mark-index l.marks) ≡ nearest_mark l.text l.name l.fn.nearest l.marks
