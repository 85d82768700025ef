use Rattle.std.proofs.Common.{◌≡◌, ◌++◌, drop, map}
use Rattle.serde_json.specs.View.{view}
use Rattle.bt_answers.specs.Outline.{symbols_in}
use Rattle.bt_answers.proofs.outline.symbols_in.Given as goal

abbrev pub invariant-pieces : goal.invariant-pieces
invariant-pieces l =
    map view l.list.items ++ symbols_in l.document.counting l.document.text (drop l.piece-index l.pieces) ≡ symbols_in l.document.counting l.document.text l.pieces
