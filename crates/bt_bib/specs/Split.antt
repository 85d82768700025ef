-- Where a database is cut into parts of limited length.
use Rattle.std.specs.Prelude.{◌≡◌, ℕ, ◌+◌, ◌-◌, nat_le, nat_lt, Bool, true, ◌&&◌, ◌||◌, List, [], ◌∷◌, ◌++◌, if◌then◌else◌}
use Rattle.std.specs.List.{list_all}
use Rattle.bt_bib.specs.declared.placed_pieces.PlacedPiece.{PlacedPiece}
use Rattle.bt_bib.specs.Parts.{is_whole}

-- Between a piece that ends at `end` and the next one, which begins at `begin`: the place one byte after the end, and the
-- beginning. If no byte lies between them, the text can be cut there only after an item without a fault.
abbrev pub places_between : ℕ → Bool → ℕ → List ℕ
places_between end whole begin =
    if nat_lt end begin then (if nat_lt (end + 1) begin then (end + 1) ∷ begin ∷ [] else begin ∷ [])
    else if whole then begin ∷ []
    else []

-- after the last piece
abbrev pub places_behind : ℕ → ℕ → List ℕ
places_behind end limit = if nat_lt end limit && nat_lt (end + 1) limit then (end + 1) ∷ [] else []

-- where a text can be cut, from the end of a piece on
unfoldable pub places_after : ℕ → Bool → List PlacedPiece → ℕ → List ℕ
places_after end whole [] limit = places_behind end limit
places_after end whole (p ∷ ps) limit =
    places_between end whole p.start.place ++ places_after p.end.place (is_whole p.piece) ps limit

-- where a whole text with these pieces and this length can be cut
abbrev pub cut_places : List PlacedPiece → ℕ → List ℕ
cut_places ps limit = places_after 0 true ps limit

-- A part that began at `from` would have more than `most` bytes up to a place, and can be cut at `last` before it.
abbrev pub is_full : ℕ → ℕ → ℕ → ℕ → Bool
is_full most from last place = nat_lt most (place - from) && nat_lt from last

abbrev pub cut_before : ℕ → ℕ → ℕ → ℕ → List ℕ
cut_before most from last place = if is_full most from last place then last ∷ [] else []

-- where the current part begins after that
abbrev pub begin_after : ℕ → ℕ → ℕ → ℕ → ℕ
begin_after most from last place = if is_full most from last place then last else from

-- The cuts of parts that are as long as possible. The current part began at `from`; `last` is the last place where it
-- can be cut, or `from` itself if there is none yet.
unfoldable pub chosen : ℕ → ℕ → ℕ → List ℕ → ℕ → List ℕ
chosen most from last [] limit = cut_before most from last limit
chosen most from last (c ∷ cs) limit =
    cut_before most from last c ++ chosen most (begin_after most from last c) c cs limit

-- a part has at most `most` bytes, or can't be cut anywhere inside
abbrev pub is_small : List ℕ → ℕ → ℕ → ℕ → Bool
is_small places most from end =
    nat_le (end - from) most || list_all (λ c. nat_le c from || nat_le end c) places

abbrev pub AreSmall : List ℕ → ℕ → ℕ → ℕ → List ℕ → Type 0
AreSmall places most from limit [] = is_small places most from limit ≡ true
AreSmall places most from limit (c ∷ cs) = (is_small places most from c ≡ true) × AreSmall places most c limit cs
