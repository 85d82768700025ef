use Rattle.std.proofs.Common.{◌≡◌, ◌++◌, drop, map}
use Rattle.serde_json.specs.View.{view}
use Rattle.bt_style_answers.specs.Hinting.{unused_at}
use Rattle.bt_style_answers.proofs.shown_style.ShownStyle.add_unused.Given as goal

abbrev pub invariant-marks : goal.invariant-marks
invariant-marks l =
    map view l.all.items ++ map (unused_at l.self.counting l.self.text.now) (drop l.mark-index l.marks) ≡
    map view l.fn.list.items ++ map (unused_at l.self.counting l.self.text.now) l.marks
