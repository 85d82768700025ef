-- What is known of the entries that READ found, held against those of the run before.
use Rattle.std.specs.Prelude.{◌≡◌, ℕ, Bool, true, false, ⊤, List, map, slice_get, Some}
use Rattle.bt_actions.specs.declared.entry.Entry.{Entry}
use Rattle.bt_actions.specs.World.{no_variables}
use Rattle.bt_resolve.specs.declared.entry.Entry.{Entry as FoundEntry}
use Rattle.bt_resolve.specs.declared.entry.Resolved.{Resolved}
use Rattle.bt_resolve.specs.declared.seen_edit.SeenEdit.{SeenEdit}
use Rattle.bt_resolve.specs.declared.seen_edit.SeenEdit.TheVariants.{Same, Others}
use Rattle.bt_run.specs.declared.alike.Alike.{Alike}
use Rattle.bt_run.specs.declared.alike.Alike.TheVariants.{Unknown, All, Those}
use Rattle.bt_run.specs.inner.Earlier.{fixed_at}

-- an entry that was found, as a style begins with it
abbrev pub found_fixed : FoundEntry → Entry
found_fixed e =
    record { key = e.key; kind = e.kind; function = e.function; fields = e.fields; variables = no_variables }

-- the same of the entry at a place
abbrev pub found_at : List FoundEntry → ℕ → Entry
found_at es n = fixed_at (map found_fixed es) n

-- These entries are those that were found, but for their variables.
abbrev pub AreFound : Resolved → List Entry → Type 0
AreFound all entries = (n : ℕ) → fixed_at entries n ≡ found_at all.entries n

-- whether something is known
abbrev pub is_known : Alike → Bool
is_known Unknown = false
is_known All = true
is_known (Those flags) = true

-- The entry at a place is known to be the same.
abbrev pub Stays : Alike → ℕ → Type 0
Stays Unknown n = ⊥
Stays All n = ⊤
Stays (Those flags) n = slice_get flags n ≡ Some true

-- Where it says so, two answers have the same entry.
abbrev pub IsAlike : Alike → Resolved → Resolved → Type 0
IsAlike alike was is = (n : ℕ) → Stays alike n → found_at was.entries n ≡ found_at is.entries n

-- what an edit leaves
abbrev pub alike_after : SeenEdit → Alike
alike_after Same = All
alike_after (Others o) = Those o.stays
