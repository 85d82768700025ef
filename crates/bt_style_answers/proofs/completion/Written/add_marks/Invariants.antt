use Rattle.std.proofs.Common.{◌≡◌, ◌++◌, drop, map}
use Rattle.serde_json.specs.View.{view}
use Rattle.bt_style_answers.specs.Completion.{mark_item}
use Rattle.bt_style_answers.proofs.completion.Written.add_marks.Given as goal

abbrev pub invariant-marks : goal.invariant-marks
invariant-marks l =
    map view l.all.items ++ map (mark_item l.self l.text) (drop l.mark-index l.marks) ≡
    map view l.fn.list.items ++ map (mark_item l.self l.text) l.marks
