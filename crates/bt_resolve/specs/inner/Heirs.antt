-- The heirs of an entry that gets new values, marked one after another, and what is seen then.
use Rattle.std.specs.Prelude.{◌≡◌, ⊤, ℕ, ◌++◌, length, Bool, true, false, not, List, [], ◌∷◌, drop, map, slice_get, slice_set, Option, Some, None, if◌then◌else◌}
use Rattle.std.specs.List.{cons_option, slice_index_or}
use Rattle.bt_resolve.specs.declared.asked.Asked.{Asked}
use Rattle.bt_resolve.specs.declared.entry.Entry.{Entry}
use Rattle.bt_resolve.specs.declared.heirs.Heirs.{Heirs}
use Rattle.bt_resolve.specs.declared.heirs.NewValues.{NewValues}
use Rattle.bt_resolve.specs.declared.stored.Stored.{Stored}
use Rattle.bt_resolve.specs.declared.seen_edit.MadeEntry.{MadeEntry}
use Rattle.bt_resolve.specs.inner.Cases.{entry_at, parent_at}
use Rattle.bt_resolve.specs.inner.Inheritance.{all_inherit, inherits_at}

-- whether a place is marked; one beyond the marks is
abbrev pub is_marked : List Bool → ℕ → Bool
is_marked marks p = slice_index_or marks p true

-- a mark for each entry, set at one place
abbrev pub marked_at : List Stored → ℕ → List Bool
marked_at stored place = slice_set (map (λ (s : Stored). false) stored) place true

abbrev pub heirs_from : Option ℕ → ℕ → List Bool → List Bool
heirs_from None p marks = marks
heirs_from (Some parent) p marks = if is_marked marks parent then slice_set marks p true else marks

abbrev pub heirs_at : List Stored → List Bool → ℕ → List Bool
heirs_at stored marks p = heirs_from (parent_at stored p) p marks

-- the entries at these places, one after another
abbrev pub all_heirs : List Stored → List Bool → List ℕ → List Bool
all_heirs stored marks [] = marks
all_heirs stored marks (p ∷ ps) = all_heirs stored (heirs_at stored marks p) ps

abbrev pub heirs_of : List Stored → List ℕ → List (List (Option (List ℕ))) → NewValues → Heirs
heirs_of stored places values new = record {
  values = all_inherit stored (slice_set values new.place new.values) places;
  marks = all_heirs stored (marked_at stored new.place) places;
}

-- whatever is marked in the first list is marked in the second
abbrev pub MarksAll : List Bool → List Bool → Type 0
MarksAll marks more = (p : ℕ) → is_marked marks p ≡ true → is_marked more p ≡ true

-- a marked entry's parent is marked
abbrev pub IsClosedAt : List Stored → List Bool → ℕ → Type 0
IsClosedAt stored marks p =
    is_marked marks p ≡ true → (q : ℕ) → parent_at stored p ≡ Some q → is_marked marks q ≡ true

abbrev pub IsClosed : List Stored → List Bool → List ℕ → Type 0
IsClosed stored marks [] = ⊤
IsClosed stored marks (p ∷ ps) = IsClosedAt stored marks p × IsClosed stored marks ps

abbrev pub inherits_if : Bool → List Stored → List (List (Option (List ℕ))) → ℕ → List (List (Option (List ℕ)))
inherits_if true stored values p = inherits_at stored values p
inherits_if false stored values p = values

-- the marked ones of these places, one after another
abbrev pub some_inherit : List Stored → List Bool → List (List (Option (List ℕ))) → List ℕ → List (List (Option (List ℕ)))
some_inherit stored marks values [] = values
some_inherit stored marks values (p ∷ ps) =
    some_inherit stored marks (inherits_if (is_marked marks p) stored values p) ps

-- marked entries have the same values
abbrev pub AreSameAt : List Bool → List (List (Option (List ℕ))) → List (List (Option (List ℕ))) → Type 0
AreSameAt marks values others =
    (p : ℕ) → is_marked marks p ≡ true → slice_index_or values p [] ≡ slice_index_or others p []

-- the heirs are right, and so are their values
pub record AreHeirs (stored : List Stored) (places : List ℕ) (values : List (List (Option (List ℕ)))) (new : NewValues) (h : Heirs) : Type 0 where
  pub marked : h.marks ≡ (heirs_of stored places values new).marks
  pub inherited : AreSameAt h.marks h.values (heirs_of stored places values new).values

abbrev pub stays_among : List Bool → List ℕ → List Bool
stays_among marks places = map (λ p. not (is_marked marks p)) places

-- an entry that is made anew if it is marked, and else the old one
abbrev pub made_if : Bool → Option Entry → Option Entry → Option Entry
made_if true made old = made
made_if false made old = old

-- the entries at some places: made anew where they are marked, and else the old ones
abbrev pub entries_made : (ℕ → Option Entry) → (ℕ → Bool) → List ℕ → List Entry → List Entry
entries_made made marked [] old = []
entries_made made marked (p ∷ ps) old =
    cons_option (made_if (marked p) (made p) (slice_get old 0)) (entries_made made marked ps (drop 1 old))

-- the entry of a place with the values in a list
abbrev pub made_at : Asked → ℕ → List Stored → List (List (Option (List ℕ))) → ℕ → Option Entry
made_at a min stored values p = entry_at a min stored (λ q. slice_index_or values p []) p

-- Entries that were made again take the place of those at their indices.
abbrev pub with_made : List MadeEntry → List Entry → List Entry
with_made [] es = es
with_made (m ∷ ms) es = with_made ms (slice_set es m.index m.entry)

-- The entry at an index is added if it is to be made again. If so, there is one.
abbrev pub MakesAgain : Bool → Option Entry → ℕ → List MadeEntry → List MadeEntry → Type 0
MakesAgain false o k before after = after ≡ before
MakesAgain true None k before after = ⊥
MakesAgain true (Some e) k before after = after ≡ before ++ record { index = k; entry = e } ∷ []

-- Putting these in place gives what an edit makes of the entries at these places.
abbrev pub AreMadeAgain : (ℕ → Option Entry) → (ℕ → Bool) → List ℕ → List MadeEntry → Type 0
AreMadeAgain made marked places ms =
    (old : List Entry) → length old ≡ length places → with_made ms old ≡ entries_made made marked places old
