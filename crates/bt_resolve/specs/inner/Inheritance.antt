-- Entries inherit one after another, in the list of all current values.
use Rattle.std.specs.Prelude.{ℕ, not, List, [], ◌∷◌, Option, Some, None, slice_set, map, filter}
use Rattle.std.specs.List.{slice_index_or}
use Rattle.bt_resolve.specs.declared.stored.Stored.{Stored}
use Rattle.bt_resolve.specs.declared.asked.Asked.{Asked}
use Rattle.bt_resolve.specs.declared.view.Seen.{Seen}
use Rattle.bt_resolve.specs.declared.view.View.{View}
use Rattle.bt_resolve.specs.Listed.{listed}
use Rattle.bt_resolve.specs.Inherited.{inherited, is_left_out, entries_seen}
use Rattle.bt_resolve.specs.Skeletons.{shown}
use Rattle.bt_resolve.specs.inner.Cases.{parent_at}

abbrev pub inherits_from : Option ℕ → ℕ → List (List (Option (List ℕ))) → List (List (Option (List ℕ)))
inherits_from None p values = values
inherits_from (Some parent) p values =
    slice_set values p (inherited (slice_index_or values p []) (slice_index_or values parent []))

abbrev pub inherits_at : List Stored → List (List (Option (List ℕ))) → ℕ → List (List (Option (List ℕ)))
inherits_at stored values p = inherits_from (parent_at stored p) p values

-- the entries at these places, one after another
abbrev pub all_inherit : List Stored → List (List (Option (List ℕ))) → List ℕ → List (List (Option (List ℕ)))
all_inherit stored values [] = values
all_inherit stored values (p ∷ ps) = all_inherit stored (inherits_at stored values p) ps

abbrev pub values_read : List Stored → List (List (Option (List ℕ)))
values_read stored = map (λ (s : Stored). s.values) stored

-- those of the places whose entries aren't left out
abbrev pub shown_among : View → List ℕ → List ℕ
shown_among v places = filter (λ p. not (is_left_out v.asked.now v.min v.family.now p)) places

-- what the style sees, with its places
abbrev pub seen_of : Asked → ℕ → List Stored → Seen
seen_of a min stored = record { listed = listed a stored; places = shown a min stored; entries = entries_seen a min stored }
