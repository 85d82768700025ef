use Rattle.std.proofs.Common.{◌≡◌, ◌++◌, drop}
use Rattle.bt_style_text.specs.Uses.{callers, callers_from}
use Rattle.bt_style_text.proofs.uses.callers.Given as goal

abbrev pub invariant-marks : goal.invariant-marks
invariant-marks l =
    l.found.items ++ callers_from l.text l.name l.function (drop l.mark-index l.marks) ≡ callers l.text l.name l.marks
