use Rattle.std.proofs.Common.{◌≡◌, drop}
use Rattle.std.specs.List.{fold}
use Rattle.bt_mentions.specs.Databases.{with_piece}
use Rattle.bt_mentions.proofs.databases.with_pieces.Given as goal

abbrev pub invariant-pieces : goal.invariant-pieces
invariant-pieces l = fold (with_piece l.text) l.all (drop l.piece-index l.pieces) ≡ fold (with_piece l.text) l.fn.found l.pieces
