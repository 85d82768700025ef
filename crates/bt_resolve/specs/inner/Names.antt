-- Places of names, counted from a place in the list.
use Rattle.std.specs.Prelude.{◌≡◌, ℕ, ◌+◌, List, drop, map, Option, option_map}
use Rattle.bt_resolve.specs.declared.index.Known.{Known}
use Rattle.bt_resolve.specs.Names.{place_of_name}

-- a place among the last elements of a list, as a place of the list
abbrev pub from_place : ℕ → Option ℕ → Option ℕ
from_place i found = option_map (λ k. i + k) found

-- the place of a name among the last names, as a place of the whole list
abbrev pub places_from : List (List ℕ) → ℕ → List ℕ → Option ℕ
places_from names i name = from_place i (place_of_name (drop i names) name)

-- what is at hand agrees with the places of names
abbrev pub AreKnown : (List ℕ → Option ℕ) → List Known → Type 0
AreKnown places slots = map (λ (k : Known). places k.name.now) slots ≡ map (λ (k : Known). k.place) slots
