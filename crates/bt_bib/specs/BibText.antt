-- The items of a whole text.
use Rattle.std.specs.Prelude.{ℕ, List, Ok}
use Rattle.bt_bib.specs.declared.placed_pieces.PlacedPiece.{PlacedPiece}
use Rattle.bt_bib.specs.Spot.{at, start}
use Rattle.bt_bib.specs.Many.{all}
use Rattle.bt_bib.specs.Pieces.{next_piece}

-- The comment words and items of a whole text: the text up to an `@`, the piece that begins there, and then the rest.
-- After a faulty item, the rest begins at the fault. Each piece comes with its places in the text.
unfoldable pub pieces_of : List ℕ → List PlacedPiece
pieces_of text = (all (λ h. Ok (next_piece h)) (at start text)).0
