use Rattle.std.proofs.Common.{◌≡◌, drop}
use Rattle.bt_places.specs.Entries.{item_around}
use Rattle.bt_places.proofs.entries.item_around.Given as goal

abbrev pub invariant-pieces : goal.invariant-pieces
invariant-pieces l = item_around l.place (drop l.piece-index l.pieces) ≡ item_around l.place l.pieces
