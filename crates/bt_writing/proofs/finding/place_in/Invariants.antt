use Rattle.std.proofs.Common.{◌≡◌, drop}
use Rattle.bt_writing.specs.Finding.{place_in}
use Rattle.bt_writing.proofs.finding.place_in.Given as goal

abbrev pub invariant-pieces : goal.invariant-pieces
invariant-pieces l = place_in l.key (drop l.piece-index l.pieces) ≡ place_in l.key l.pieces
