use Rattle.std.proofs.Common.{◌≡◌, drop, map}
use Rattle.std.specs.List.{fold}
use Rattle.serde_json.specs.View.{view}
use Rattle.bt_writing.specs.Types.{with_type}
use Rattle.bt_writing.proofs.types.StyleTypes.with_each.Given as goal

abbrev pub invariant-types : goal.invariant-types
invariant-types l =
    let add = with_type l.self.written l.style.text.now l.style.marks.now in
    fold add (map view l.all.items) (drop l.one-index l.some) ≡ fold add (map view l.fn.list.items) l.some
