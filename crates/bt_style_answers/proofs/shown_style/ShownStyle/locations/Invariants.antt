use Rattle.std.proofs.Common.{◌≡◌, ◌++◌, drop, map}
use Rattle.serde_json.specs.View.{view}
use Rattle.bt_style_answers.specs.References.{mark_location}
use Rattle.bt_style_answers.proofs.shown_style.ShownStyle.locations.Given as goal

abbrev pub invariant-marks : goal.invariant-marks
invariant-marks l = map view l.list.items ++ map (mark_location l.self.counting l.self.uri.now l.self.text.now) (drop l.mark-index l.marks) ≡ map (mark_location l.self.counting l.self.uri.now l.self.text.now) l.marks
