-- Splices of a text, and what is re-read after one.
use Rattle.std.specs.Prelude.{◌≡◌, ℕ, ◌+◌, ◌-◌, ◌≤◌, nat_lt, nat_le, ◌==◌, Bool, ◌&&◌, max, min, List, [], ◌∷◌, ◌++◌, length, take, drop, map}
use Rattle.std.specs.List.{filter, list_any}
use Rattle.bt_bib.specs.declared.placed_pieces.PlacedPiece.{PlacedPiece}
use Rattle.bt_bib.specs.declared.splice.ItemsEdit.{ItemsEdit}
use Rattle.bt_bib.specs.Boundaries.{boundaries, moved_piece}
use Rattle.bt_bib.specs.BibText.{pieces_of}

-- new is old with the bytes from begin up to end replaced by `inserted` others
pub record IsSplice (old new : List ℕ) (begin end inserted : ℕ) : Type 0 where
  pub order : begin ≤ end
  pub inside : end ≤ length old
  pub bytes : List ℕ
  pub count : length bytes ≡ inserted
  pub text : new ≡ take begin old ++ bytes ++ drop end old

-- the greatest of some places, else 0
abbrev pub greatest : List ℕ → ℕ
greatest [] = 0
greatest (x ∷ xs) = max x (greatest xs)

-- the least of some places and of `most`
abbrev pub least : ℕ → List ℕ → ℕ
least most [] = most
least most (x ∷ xs) = min x (least most xs)

abbrev pub is_boundary : List PlacedPiece → ℕ → Bool
is_boundary ps place = list_any (λ b. b == place) (boundaries ps)

-- a place of the new text, at or after the inserted bytes, that is a boundary of the old one when moved back
abbrev pub is_common : List PlacedPiece → ℕ → ℕ → ℕ → ℕ → Bool
is_common old begin end inserted place =
    nat_le (begin + inserted) place && is_boundary old (place - (begin + inserted) + end)

-- Reading restarts at the greatest boundary of the old text below the splice, else at 0.
abbrev pub reread_from : List ℕ → ℕ → ℕ
reread_from old begin = greatest (filter (λ place. nat_lt place begin) (boundaries (pieces_of old)))

-- It continues up to the new text's least boundary that both texts have, else to the new text's end.
abbrev pub reread_upto : List ℕ → List ℕ → ℕ → ℕ → ℕ → ℕ
reread_upto old new begin end inserted =
    least (length new) (filter (is_common (pieces_of old) begin end inserted) (boundaries (pieces_of new)))

-- How a splice changes the pieces of a text: the first ones stay, the next ones are replaced, and the rest are moved.
pub record IsItemsEdit (old new : List PlacedPiece) (e : ItemsEdit) : Type 0 where
  pub order : e.before ≤ e.upto
  pub inside : e.upto ≤ length old
  -- the rest, with places relative to the spot that the text after the splice had, and now has
  pub behind : List PlacedPiece
  pub stood : drop e.upto old ≡ map (moved_piece e.stood) behind
  pub pieces : new ≡ take e.before old ++ e.new ++ map (moved_piece e.stand) behind
