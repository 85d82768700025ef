-- A cursor over pieces gives the first of those that are left.
use Rattle.std.proofs.Common.{◌≡◌, List, Option, Some, None, ap, ◌∙◌}
use Rattle.bt_bib.specs.declared.placed_pieces.PlacedPiece.{PlacedPiece}
use Rattle.bt_bib.specs.PieceCursor.{IsNext}
use Rattle.bt_bib.specs.Pieces.{next_piece}
use Rattle.bt_bib.specs.Spot.{Here}
use Rattle.bt_bib.specs.inner.Cases.{pieces_from}
use Rattle.bt_bib.proofs.BoundaryLemmas.{pieces_by, pieces_step}

next_by : (left : List PlacedPiece) (p : Option PlacedPiece) (e : Here) → left ≡ pieces_by (p, e) → IsNext p left (pieces_from e)
next_by left None e is = is
next_by left (Some p) e is = is

pub is_next : (left : List PlacedPiece) (p : Option PlacedPiece) (h e : Here) → left ≡ pieces_from h → next_piece h ≡ (p, e) → IsNext p left (pieces_from e)
is_next left p h e from_here is = next_by left p e (from_here ∙ pieces_step h ∙ ap pieces_by is)
