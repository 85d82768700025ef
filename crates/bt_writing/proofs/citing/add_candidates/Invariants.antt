use Rattle.std.proofs.Common.{◌≡◌, ◌++◌, drop, map}
use Rattle.serde_json.specs.View.{view}
use Rattle.bt_writing.specs.Citing.{candidates_of}
use Rattle.bt_writing.proofs.citing.add_candidates.Given as goal

abbrev pub invariant-pieces : goal.invariant-pieces
invariant-pieces l =
    map view l.all.items ++ candidates_of l.written (drop l.piece-index l.pieces) ≡ map view l.fn.list.items ++ candidates_of l.written l.pieces
