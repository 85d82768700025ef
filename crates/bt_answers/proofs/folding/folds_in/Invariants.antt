use Rattle.std.proofs.Common.{◌≡◌, ◌++◌, drop, map}
use Rattle.serde_json.specs.View.{view}
use Rattle.bt_answers.specs.Folding.{folds_in}
use Rattle.bt_answers.proofs.folding.folds_in.Given as goal

abbrev pub invariant-pieces : goal.invariant-pieces
invariant-pieces l =
    map view l.list.items ++ folds_in l.document.counting l.document.text (drop l.piece-index l.pieces) ≡ folds_in l.document.counting l.document.text l.pieces
