use Rattle.std.proofs.Common.{◌≡◌, ◌++◌, drop, map}
use Rattle.serde_json.specs.View.{view}
use Rattle.bt_style_answers.specs.Hinting.{unknown_at}
use Rattle.bt_style_answers.proofs.shown_style.ShownStyle.add_unknown.Given as goal

abbrev pub invariant-marks : goal.invariant-marks
invariant-marks l =
    map view l.all.items ++ map (unknown_at l.self.counting l.self.text.now l.declared) (drop l.mark-index l.marks) ≡
    map view l.fn.list.items ++ map (unknown_at l.self.counting l.self.text.now l.declared) l.marks
