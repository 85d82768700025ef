-- A text cut into parts, each read as a text of its own.
use Rattle.std.specs.Prelude.{◌≡◌, ◌≤◌, ℕ, ◌==◌, nat_le, nat_lt, Bool, true, false, ◌&&◌, ◌||◌, List, [], ◌∷◌, length}
use Rattle.std.specs.List.{list_all}
use Rattle.std.specs.Option.{is_none}
use Rattle.bt_bib.specs.declared.item.Piece.{Piece}
use Rattle.bt_bib.specs.declared.item.Piece.TheVariants as pieces
use Rattle.bt_bib.specs.declared.placed_pieces.PlacedPiece.{PlacedPiece}
use Rattle.bt_bib.specs.BibText.{pieces_of}

-- an item without a fault
abbrev pub is_whole : Piece → Bool
is_whole pieces.Comment = false
is_whole (pieces.Item item) = is_none item.fault

-- A piece lies before a place if it ends below it, or if it is an item without a fault that ends there. The reader
-- recognises a fault by the byte at the fault's place, and a comment word by the byte after it, so that byte has to lie
-- before the place too.
abbrev pub lies_before : ℕ → PlacedPiece → Bool
lies_before place p = nat_lt p.end.place place || (is_whole p.piece && p.end.place == place)

-- a piece begins at or after a place
abbrev pub lies_behind : ℕ → PlacedPiece → Bool
lies_behind place p = nat_le place p.start.place

-- A text with these pieces can be cut at a place if no piece lies across it.
abbrev pub is_cut : List PlacedPiece → ℕ → Bool
is_cut ps place = list_all (λ p. lies_before place p || lies_behind place p) ps

-- places from `from` to `end`, in rising order, where a text with these pieces can be cut
abbrev pub AreCuts : List PlacedPiece → ℕ → ℕ → List ℕ → Type 0
AreCuts ps from end [] = from ≤ end
AreCuts ps from end (c ∷ cs) = (from ≤ c) × (is_cut ps c ≡ true) × AreCuts ps c end cs

-- A text is closed if all its pieces lie before its end. Whatever is appended, they stay as they are.
abbrev pub is_closed : List ℕ → Bool
is_closed text = list_all (lies_before (length text)) (pieces_of text)
