use Rattle.std.proofs.Common.{ap, length, List}
use Rattle.bt_bib.specs.declared.placed_pieces.PlacedPiece.{PlacedPiece}
use Rattle.bt_resolve.proofs.EarlierLemmas.{edit_keeps}
use Rattle.bt_resolve.proofs.earlier.KeptPieces.of.Goals as goal

pub returns : goal.returns
returns c = λ old new is. edit_keeps old new c.args.edit.now _ is (ap (λ (ps : List PlacedPiece). record { before = c.args.edit.now.before; added = length ps; upto = c.args.edit.now.upto }) c.pieces.ensures)
