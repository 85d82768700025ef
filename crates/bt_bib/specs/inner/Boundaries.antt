-- Pieces in the order of a text, and those of them that end below a place.
use Rattle.std.specs.Prelude.{ℕ, nat_lt, List, [], ◌∷◌, if◌then◌else◌}
use Rattle.bt_bib.specs.declared.placed_pieces.PlacedPiece.{PlacedPiece}
use Rattle.bt_bib.specs.Boundaries.{Rises}

-- those that end below a place, of pieces whose ends rise
abbrev pub below : ℕ → List PlacedPiece → List PlacedPiece
below limit [] = []
below limit (p ∷ ps) = if nat_lt p.end.place limit then p ∷ below limit ps else []

abbrev pub end_place : PlacedPiece → ℕ
end_place p = p.end.place

-- If some pieces are those of a text, their spans rise.
abbrev pub InOrder : List PlacedPiece → Type 0
InOrder ps = (limit : ℕ) × Rises limit 0 ps
