use Rattle.std.proofs.Common.{◌≡◌, drop, map}
use Rattle.std.specs.List.{fold}
use Rattle.serde_json.specs.View.{view}
use Rattle.bt_writing.specs.Types.{with_own_type}
use Rattle.bt_writing.proofs.types.StyleTypes.with_own.Given as goal

abbrev pub invariant-marks : goal.invariant-marks
invariant-marks l =
    let add = with_own_type l.self.written l.style.text.now l.style.marks.now in
    fold add (map view l.all.items) (drop l.mark-index l.style.marks.now) ≡ fold add (map view l.fn.list.items) l.style.marks.now
