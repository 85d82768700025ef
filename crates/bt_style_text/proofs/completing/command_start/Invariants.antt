use Rattle.std.proofs.Common.{◌≡◌, drop}
use Rattle.bt_style_text.specs.Completing.{command_start}
use Rattle.bt_style_text.proofs.completing.command_start.Given as goal

abbrev pub invariant-marks : goal.invariant-marks
invariant-marks l = command_start l.place l.start (drop l.mark-index l.marks) ≡ command_start l.place 0 l.marks
