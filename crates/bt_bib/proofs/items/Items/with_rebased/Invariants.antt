use Rattle.std.proofs.Common.{◌≡◌, ◌++◌, take, map}
use Rattle.bt_bib.specs.inner.PlacedPieces.{rebased_piece}
use Rattle.bt_bib.proofs.items.Items.with_rebased.Given as goal

abbrev pub invariant-pieces : goal.invariant-pieces
invariant-pieces l = l.items ≡ l.fn.self ++ map (rebased_piece l.a l.b) (take l.piece-index l.others)
