-- Tables of values by names, which match without regard to case: a table has its names in small letters.
use Rattle.std.specs.Prelude.{ℕ, suc, ◌<◌, Bool, List, [], ◌∷◌, Option, Some, None, option_map, map, bytes_eq, if◌then◌else◌}
use Rattle.std.specs.HashMap.{spare}
use Rattle.std.specs.Map.{lookup}
use Rattle.indexmap.specs.IndexMap.{insert_entry}
use Rattle.bt_text.specs.CaseFolding.{folded, is_same_folded}
use Rattle.bt_text.specs.declared.by_name.ByName.{ByName}

-- the names in small letters with their values, in the order in which the names came
abbrev pub listed : {X : Type 0} → ByName X → List (List ℕ × X)
listed table = map (λ e. (e.0.items, e.1)) table.values.entries

-- a list of names with one more, which goes last; a name that is there keeps its place
abbrev pub with_entry : {X : Type 0} → List ℕ → X → List (List ℕ × X) → List (List ℕ × X)
with_entry small value entries = insert_entry bytes_eq entries small value

-- the place of the first element that passes a test
abbrev pub first_place : {X : Type 0} → (X → Bool) → List X → Option ℕ
first_place test [] = None
first_place test (x ∷ xs) = if test x then Some 0 else option_map (λ i. suc i) (first_place test xs)

-- what a table has at a name in small letters
abbrev pub at_small : {X : Type 0} → ByName X → List ℕ → Option X
at_small table small = lookup (bytes_eq small) (listed table)

-- what a table has at a name
abbrev pub known : {X : Type 0} → ByName X → List ℕ → Option X
known table name = at_small table (folded name)

-- one more name takes no memory
abbrev pub HasRoom : {X : Type 0} → ByName X → Type 0
HasRoom table = 0 < spare table.values

-- what names have, once a name has this value too
abbrev pub with_value : {X : Type 0} → List ℕ → X → (List ℕ → Option X) → List ℕ → Option X
with_value name x before other = if is_same_folded name other then Some x else before other

abbrev pub no_value : {X : Type 0} → List ℕ → Option X
no_value name = None

-- values by the names that they have, in small letters
abbrev pub by_small : {X : Type 0} → (X → List ℕ) → List X → List (List ℕ × X)
by_small name values = map (λ x. (folded (name x), x)) values
