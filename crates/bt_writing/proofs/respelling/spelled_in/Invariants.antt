use Rattle.std.proofs.Common.{◌≡◌, drop}
use Rattle.bt_writing.specs.Respelling.{spelled_in}
use Rattle.bt_writing.proofs.respelling.spelled_in.Given as goal

abbrev pub invariant-pieces : goal.invariant-pieces
invariant-pieces l = spelled_in l.key (drop l.piece-index l.pieces) ≡ spelled_in l.key l.pieces
