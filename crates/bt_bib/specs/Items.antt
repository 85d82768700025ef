-- The items among the pieces of a database.
use Rattle.std.specs.Prelude.{List, [], ◌∷◌}
use Rattle.bt_bib.specs.declared.spot.Spot.{Spot}
use Rattle.bt_bib.specs.declared.item.Item.{Item}
use Rattle.bt_bib.specs.declared.item.Piece.TheVariants as pieces
use Rattle.bt_bib.specs.declared.placed_pieces.PlacedPiece.{PlacedPiece}

-- an item with the spot of its `@` and the spot after it, which for a faulty item is the spot of the fault
pub record PlacedItem : Type 0 where
  pub start : Spot
  pub end : Spot
  pub item : Item

-- the items, without the comment words
abbrev pub items_of : List PlacedPiece → List PlacedItem
items_of [] = []
items_of (p ∷ ps) = elim p.piece [
  | pieces.Comment ↦ items_of ps
  | pieces.Item item ↦ record { start = p.start; end = p.end; item = item } ∷ items_of ps
]
