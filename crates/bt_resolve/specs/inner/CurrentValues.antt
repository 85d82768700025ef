-- The values of the stored entries, some of which were replaced.
use Rattle.std.specs.Prelude.{ℕ, List, [], ◌∷◌, drop, Option, Some, None, slice_get}

-- what replaced a value, or else the value
abbrev pub value_since : List (Option (List ℕ)) → Option (Option (List (Option (List ℕ)))) → List (Option (List ℕ))
value_since before (Some (Some values)) = values
value_since before (Some None) = before
value_since before None = before

-- values, each as it is since it was replaced
abbrev pub current : List (List (Option (List ℕ))) → List (Option (List (Option (List ℕ)))) → List (List (Option (List ℕ)))
current [] since = []
current (v ∷ vs) since = value_since v (slice_get since 0) ∷ current vs (drop 1 since)
