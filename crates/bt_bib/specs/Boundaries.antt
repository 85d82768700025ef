-- Boundaries: the places of a text at which reading can restart.
use Rattle.std.specs.Prelude.{ℕ, ◌<◌, ◌≤◌, List, [], ◌∷◌, map}
use Rattle.bt_bib.specs.declared.spot.Spot.{Spot}
use Rattle.bt_bib.specs.declared.placed_pieces.PlacedPiece.{PlacedPiece}
use Rattle.bt_bib.specs.Spot.{spot_from}

-- the boundaries of a text that has these pieces: its first place, and where each piece ends
abbrev pub boundaries : List PlacedPiece → List ℕ
boundaries ps = 0 ∷ map (λ (p : PlacedPiece). p.end.place) ps

-- the last boundary of some pieces that follow a spot
abbrev pub last_end : Spot → List PlacedPiece → Spot
last_end s [] = s
last_end s (p ∷ ps) = last_end p.end ps

-- The spans of some pieces after a place rise: each begins at or after the end of the one before and ends after its
-- beginning, and the last ends at or before a limit.
abbrev pub Rises : ℕ → ℕ → List PlacedPiece → Type 0
Rises limit place [] = place ≤ limit
Rises limit place (p ∷ ps) =
    (place ≤ p.start.place) × (p.start.place < p.end.place) × Rises limit p.end.place ps

-- a piece of the text after a spot, with places relative to that spot, as a piece of the whole text
abbrev pub moved_piece : Spot → PlacedPiece → PlacedPiece
moved_piece m p = record { start = spot_from m p.start; end = spot_from m p.end; piece = p.piece }
