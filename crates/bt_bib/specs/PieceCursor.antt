-- A cursor over the pieces of a database.
use Rattle.std.specs.Prelude.{◌≡◌, List, [], ◌∷◌, Option, Some, None}
use Rattle.bt_bib.specs.declared.placed_pieces.PlacedPiece.{PlacedPiece}

-- this is the first of the pieces that were left, and the others are left now; or there was none
abbrev pub IsNext : Option PlacedPiece → List PlacedPiece → List PlacedPiece → Type 0
IsNext None left others = left ≡ []
IsNext (Some piece) left others = left ≡ piece ∷ others
