-- How texts with their places are found, and how two lists of them become one.
use Rattle.std.specs.Prelude.{◌≡◌, ℕ, ◌<◌, ◌≤◌, ◌==◌, nat_lt, bytes_eq, length, Bool, true, false, ◌&&◌, List, [], ◌∷◌, ◌++◌, slice_index_or, if◌then◌else◌}

-- texts with their places
abbrev pub Present : Type 0
Present = List (ℕ × List ℕ)

-- the place that stands at an index
abbrev pub place_at : Present → ℕ → ℕ
place_at present i = let found = slice_index_or present i (0, []) in found.0

abbrev pub IsInOrder : Present → Type 0
IsInOrder present = (i j : ℕ) → i < j → j < length present → place_at present i < place_at present j

-- a place stands at an index
pub record IsAt (present : Present) (place i : ℕ) : Type 0 where
  pub in_range : i < length present
  pub has_place : place_at present i ≡ place

-- a place doesn't stand there, and would go to an index
pub record IsGap (present : Present) (place i : ℕ) : Type 0 where
  pub in_range : i ≤ length present
  pub smaller_before : (j : ℕ) → j < i → place_at present j < place
  pub greater_after : (j : ℕ) → i ≤ j → j < length present → place < place_at present j

-- those before a place
abbrev pub below : ℕ → Present → Present
below place [] = []
below place ((p, text) ∷ rest) = if nat_lt p place then (p, text) ∷ below place rest else []

-- those after a place
abbrev pub above : ℕ → Present → Present
above place [] = []
above place ((p, text) ∷ rest) =
    if nat_lt p place then above place rest else if p == place then rest else (p, text) ∷ rest

-- texts with those of others whose places have none, below a count
abbrev pub merged : ℕ → Present → Present → Present
merged count [] others = below count others
merged count ((p, text) ∷ texts) others = below p others ++ (p, text) ∷ merged count texts (above p others)

abbrev pub same_text : ℕ × List ℕ → ℕ × List ℕ → Bool
same_text text other = text.0 == other.0 && bytes_eq text.1 other.1

abbrev pub same_present : Present → Present → Bool
same_present [] [] = true
same_present [] (other ∷ others) = false
same_present (text ∷ texts) [] = false
same_present (text ∷ texts) (other ∷ others) = same_text text other && same_present texts others
