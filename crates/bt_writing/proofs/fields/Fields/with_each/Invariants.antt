use Rattle.std.proofs.Common.{◌≡◌, drop, map}
use Rattle.std.specs.List.{fold}
use Rattle.serde_json.specs.View.{view}
use Rattle.bt_writing.specs.Fields.{with_read}
use Rattle.bt_writing.proofs.fields.Fields.with_each.Given as goal

abbrev pub invariant-marks : goal.invariant-marks
invariant-marks l =
    let add = with_read l.self.present.now l.self.written l.style.text.now l.style.marks.now in
    fold add (map view l.all.items) (drop l.mark-index l.style.marks.now) ≡ fold add (map view l.fn.list.items) l.style.marks.now
