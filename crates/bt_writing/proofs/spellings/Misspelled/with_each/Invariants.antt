use Rattle.std.proofs.Common.{◌≡◌, [], drop, map}
use Rattle.std.specs.List.{fold}
use Rattle.serde_json.specs.View.{view}
use Rattle.bt_writing.specs.Spellings.{with_spelling}
use Rattle.bt_writing.proofs.spellings.Misspelled.with_each.Given as goal

abbrev pub invariant-marks : goal.invariant-marks
invariant-marks l =
    let add = with_spelling l.self.document.now l.self.declared.now l.self.from l.self.to in
    fold add (map view l.all.items) (drop l.mark-index l.marks) ≡ fold add [] l.marks
