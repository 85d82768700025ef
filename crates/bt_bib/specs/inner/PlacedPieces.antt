-- Pieces whose text has moved.
use Rattle.std.specs.Prelude.{◌+◌, ◌-◌, ◌<◌, ◌^◌}
use Rattle.bt_bib.specs.declared.spot.Spot.{Spot}
use Rattle.bt_bib.specs.declared.placed_pieces.PlacedPiece.{PlacedPiece}

-- the spot that one after a becomes when the text from a on moves to b
abbrev pub rebased : Spot → Spot → Spot → Spot
rebased a b s = record { place = s.place - a.place + b.place; line = s.line - a.line + b.line }

abbrev pub rebased_piece : Spot → Spot → PlacedPiece → PlacedPiece
rebased_piece a b p = record { start = rebased a b p.start; end = rebased a b p.end; piece = p.piece }

-- the resulting numbers fit in a usize
abbrev pub FitsSpot : Spot → Spot → Spot → Type 0
FitsSpot a b s = (s.place - a.place + b.place < 2 ^ 64) × (s.line - a.line + b.line < 2 ^ 64)

abbrev pub FitsPiece : Spot → Spot → PlacedPiece → Type 0
FitsPiece a b p = FitsSpot a b p.start × FitsSpot a b p.end
