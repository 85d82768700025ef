use Rattle.std.proofs.Common.{◌≡◌, ◌++◌, drop, map}
use Rattle.serde_json.specs.View.{view}
use Rattle.bt_style_answers.specs.Renaming.{edit_of}
use Rattle.bt_style_answers.proofs.shown_style.ShownStyle.edits_of.Given as goal

abbrev pub invariant-marks : goal.invariant-marks
invariant-marks l = map view l.list.items ++ map (edit_of l.self.counting l.self.text.now l.new) (drop l.mark-index l.marks) ≡ map (edit_of l.self.counting l.self.text.now l.new) l.marks
