-- The names that a text lists.
use Rattle.std.specs.Prelude.{ℕ, suc, ◌+◌, ◌-◌, nat_lt, ◌==◌, Bool, false, ◌&&◌, ℤ, pos, codes, List, [], ◌∷◌, length, drop, filter, slice_get, slice_index, slice_range, Option, None}
use Rattle.std.specs.List.{range_with_len}
use Rattle.bt_text.specs.ByteTests.{is_white}
use Rattle.bt_text.specs.Depth.{depth_at}
use Rattle.bt_text.specs.CaseFolding.{is_same_folded}

-- A text begins with `and` in any case, and white space directly after it.
abbrev pub begins_with_and : List ℕ → Bool
begins_with_and (a ∷ n ∷ d ∷ w ∷ t) = is_same_folded (a ∷ n ∷ d ∷ []) (codes "and") && is_white w
begins_with_and _ = false

-- white space stands directly before place i
abbrev pub follows_white : List ℕ → ℕ → Bool
follows_white t i = nat_lt 0 i && is_white (slice_index t (i - 1))

-- a separator stands at place i: `and` with white space on both sides
unfoldable pub has_and_at : List ℕ → ℕ → Bool
has_and_at t i = follows_white t i && begins_with_and (drop i t)

-- the places of depth 0 at which a separator stands
abbrev pub places_of_and : List ℕ → List ℕ
places_of_and t = filter (λ i. depth_at t i == 0 && has_and_at t i) (range_with_len 0 (length t))

-- the texts between these places, from start on; a separator is three bytes, and the white space stays with the names
abbrev pub texts_between : List ℕ → ℕ → List ℕ → List (List ℕ)
texts_between t start [] = drop start t ∷ []
texts_between t start (i ∷ places) = slice_range t start i ∷ texts_between t (i + 3) places

-- The empty text lists no name.
unfoldable pub names_of : List ℕ → List (List ℕ)
names_of [] = []
names_of (b ∷ t) = texts_between (b ∷ t) 0 (places_of_and (b ∷ t))

-- the n-th name, counted from 1
abbrev pub name_at : List ℕ → ℤ → Option (List ℕ)
name_at t (pos (suc i)) = slice_get (names_of t) i
name_at t _ = None
