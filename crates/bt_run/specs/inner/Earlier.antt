-- What is known of entries without comparing them: which of them an earlier run has too, but for their variables.
use Rattle.std.specs.Prelude.{◌≡◌, ℕ, Bool, true, List, Option, Some, None, slice_get, slice_index_or}
use Rattle.bt_actions.specs.declared.entry.Entry.{Entry}
use Rattle.bt_actions.specs.World.{no_entry}
pub use Rattle.bt_machine.specs.Agreement.{fixed}

-- the same of the entry at a place
abbrev pub fixed_at : List Entry → ℕ → Entry
fixed_at entries n = fixed (slice_index_or entries n no_entry)

-- Where it says so, the entries at a place are the same, but for their variables.
abbrev pub AreSame : List Entry → List Entry → List Bool → Type 0
AreSame entries others same = (n : ℕ) → slice_get same n ≡ Some true → fixed_at entries n ≡ fixed_at others n

-- An earlier step was for the entry at this place, which is marked as the same.
abbrev pub IsSameAt : List Bool → Option ℕ → Option ℕ → Type 0
IsSameAt same own None = ⊥
IsSameAt same own (Some n) = (own ≡ Some n) × (slice_get same n ≡ Some true)
