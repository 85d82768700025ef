use Rattle.std.proofs.Common.{◌≡◌, drop}
use Rattle.bt_style_text.specs.Outline.{command_end}
use Rattle.bt_style_text.proofs.outline.command_end.Given as goal

abbrev pub invariant-marks : goal.invariant-marks
invariant-marks l = command_end l.so_far (drop l.mark-index l.marks) ≡ command_end l.end l.marks
