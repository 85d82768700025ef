use Rattle.std.proofs.Common.{◌≡◌, drop, map}
use Rattle.std.specs.List.{fold}
use Rattle.serde_json.specs.View.{view}
use Rattle.bt_writing.specs.StyleMacros.{with_style_macro}
use Rattle.bt_writing.proofs.style_macros.StyleNames.with_macros.Given as goal

abbrev pub invariant-marks : goal.invariant-marks
invariant-marks l =
    let add = with_style_macro l.self.written l.text in
    fold add (map view l.all.items) (drop l.one-index l.marks) ≡ fold add (map view l.fn.list.items) l.marks
