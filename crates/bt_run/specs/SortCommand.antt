-- SORT: the places of the entries by their sort keys.
use Rattle.std.specs.Prelude.{ℕ, List, [], ◌∷◌, if◌then◌else◌, slice_index_or}
use Rattle.std.specs.Ordering.{is_le, nat_cmp}
use Rattle.std.specs.Cmp.Lexicographic.{slice_cmp}
use Rattle.bt_actions.specs.declared.entry.Entry.{Entry}
use Rattle.bt_actions.specs.World.{no_entry}

-- the key of the entry at a place: its text sort.key$, which is the first of its texts
abbrev pub key_at : List Entry → ℕ → List ℕ
key_at entries n = slice_index_or (slice_index_or entries n no_entry).variables.texts 0 []

-- sorted places with one more, which goes before the first whose key isn't smaller (keys are compared byte by byte)
unfoldable pub put_among : (ℕ → List ℕ) → ℕ → List ℕ → List ℕ
put_among key n [] = n ∷ []
put_among key n (m ∷ ms) =
    if is_le (slice_cmp nat_cmp (key n) (key m)) then n ∷ m ∷ ms else m ∷ put_among key n ms

-- places by their keys; those whose keys are equal stay in their order
unfoldable pub sorted : (ℕ → List ℕ) → List ℕ → List ℕ
sorted key [] = []
sorted key (n ∷ ns) = put_among key n (sorted key ns)
