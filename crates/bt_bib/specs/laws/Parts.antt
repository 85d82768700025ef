-- A text in parts, each read as a text of its own: their items are those of the text.
use Rattle.std.specs.Prelude.{◌≡◌, ℕ, ◌+◌, ◌-◌, Bool, true, false, ◌||◌, List, [], ◌∷◌, ◌++◌, length, take, drop, map}
use Rattle.bt_bib.specs.declared.spot.Spot.{Spot}
use Rattle.bt_bib.specs.declared.placed_pieces.PlacedPiece.{PlacedPiece}
use Rattle.bt_bib.specs.Spot.{start, spot_after}
use Rattle.bt_bib.specs.Boundaries.{moved_piece}
use Rattle.bt_bib.specs.BibText.{pieces_of}
use Rattle.bt_bib.specs.laws.Laws.{offset}
use Rattle.bt_bib.specs.Splice.{IsSplice}
use Rattle.bt_bib.specs.Parts.{AreCuts, is_closed}

-- the pieces of a part, read as a text of its own and moved to where the part begins
abbrev pub pieces_at : Spot → List ℕ → List PlacedPiece
pieces_at s part = map (moved_piece (offset s)) (pieces_of part)

-- the pieces of the parts of a text that begins at a spot, in order
abbrev pub pieces_in_parts : Spot → List ℕ → List ℕ → List PlacedPiece
pieces_in_parts s text [] = pieces_at s text
pieces_in_parts s text (c ∷ cs) =
    (let count = c - s.place in
    pieces_at s (take count text)
    ++ pieces_in_parts (spot_after (take count text) s) (drop count text) cs)

-- The pieces of the parts, in order, are those of the whole text.
abbrev pub PartsAreRead : Type 0
PartsAreRead = (text cuts : List ℕ) → AreCuts (pieces_of text) 0 (length text) cuts →
    pieces_in_parts start text cuts ≡ pieces_of text

abbrev pub joined : List (List ℕ) → List ℕ
joined [] = []
joined (part ∷ parts) = part ++ joined parts

abbrev pub is_empty : List (List ℕ) → Bool
is_empty [] = true
is_empty (part ∷ parts) = false

-- each text is closed, except perhaps the last
abbrev pub AreClosed : List (List ℕ) → Type 0
AreClosed [] = Unit {0}
AreClosed (part ∷ []) = Unit {0}
AreClosed (part ∷ next ∷ parts) = (is_closed part ≡ true) × AreClosed (next ∷ parts)

-- the pieces of texts that follow one another from a spot on, each text read on its own
abbrev pub pieces_in_turn : Spot → List (List ℕ) → List PlacedPiece
pieces_in_turn s [] = []
pieces_in_turn s (part ∷ parts) = pieces_at s part ++ pieces_in_turn (spot_after part s) parts

-- The pieces of closed texts, in order, are those of the joined text. So an edit of one text that stays closed leaves the
-- cuts before and after it valid.
abbrev pub ClosedPartsJoin : Type 0
ClosedPartsJoin = (parts : List (List ℕ)) → AreClosed parts →
    pieces_of (joined parts) ≡ pieces_in_turn start parts

-- An edit inside one part is an edit of the whole text. If the part is still closed afterwards, or is the last one, the
-- other parts' pieces stay, and the pieces of all parts are those of the new whole.
pub record PartEdited (before : List (List ℕ)) (part other : List ℕ) (after : List (List ℕ)) (begin end inserted : ℕ) : Type 0 where
  pub splice : IsSplice (joined (before ++ part ∷ after)) (joined (before ++ other ∷ after))
      (length (joined before) + begin) (length (joined before) + end) inserted
  pub closed : AreClosed (before ++ other ∷ after)
  pub read : pieces_of (joined (before ++ other ∷ after)) ≡ pieces_in_turn start (before ++ other ∷ after)

abbrev pub PartEditStays : Type 0
PartEditStays = (before : List (List ℕ)) (part other : List ℕ) (after : List (List ℕ)) (begin end inserted : ℕ) →
    IsSplice part other begin end inserted → AreClosed (before ++ part ∷ after) →
    (is_closed other || is_empty after) ≡ true →
    PartEdited before part other after begin end inserted
