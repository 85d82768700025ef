use Rattle.std.proofs.Common.{subst, Option}
use Rattle.bt_bib.specs.declared.placed_pieces.PlacedPiece.{PlacedPiece}
use Rattle.bt_bib.specs.PieceCursor.{IsNext}
use Rattle.bt_resolve.proofs.ReadingLemmas.{text_next}
use Rattle.bt_resolve.proofs.databases.read_text.Goals as goal

pub pieces-preserved : goal.pieces-preserved
pieces-preserved c =
    let first = subst (λ (next : Option PlacedPiece). IsNext next c.pieces.left c.next.new.self) c.in-Some.is c.in_ok-next.ensures in
    text_next c.args.asked.now c.args.database _ _ _ c.in-Some.piece c.pieces.left c.next.new.self first c.in_ok-piece-in-Some.ensures c.pieces.invariant
