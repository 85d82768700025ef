use Rattle.std.proofs.Common.{◌≡◌, drop}
use Rattle.bt_style_text.specs.Comments.{comment_above, above_from}
use Rattle.bt_style_text.proofs.comments.comment_above.Given as goal

abbrev pub invariant-marks : goal.invariant-marks
invariant-marks l = above_from l.text l.start l.run (drop l.mark-index l.marks) ≡ comment_above l.text l.start l.marks
