-- What is known while a style is checked: of values, of variables, and of the world before an element.
use Rattle.std.specs.Prelude.{ℤ, pos, Bool, true, false, ◌&&◌, ◌||◌, not, List, Option, Some, None, ◌+ℤ◌, ◌-ℤ◌, int_lt, if◌then◌else◌}
use Rattle.bt_actions.specs.Item.{Code}
use Rattle.bt_actions.specs.Given.{fits_number}
pub use Rattle.bt_sound.specs.declared.range.Range.{Range}
pub use Rattle.bt_sound.specs.declared.may.May.{May}
pub use Rattle.bt_sound.specs.declared.state.KnownVariables.{KnownVariables}
pub use Rattle.bt_sound.specs.declared.state.KnownEntry.{KnownEntry}

-- what is known of a value on the stack; a function is known exactly
pub data Known : Type 0 where
  Number : (range : Range) → Known
  Text : (may : May) → Known
  Run : (code : Code) → Known

-- what is known of the world before an element; the top of the stack first
pub record State : Type 0 where
  pub stack : List Known
  pub entry : Option KnownEntry
  pub globals : KnownVariables

-- a state with another stack
abbrev pub holding : List Known → State → State
holding ks s = record s { stack = ks }

-- texts

abbrev pub any_text : May
any_text = record { missing = false; blank = true; inked = true }

abbrev pub any_field : May
any_field = record { missing = true; blank = true; inked = true }

-- two texts, one after the other
abbrev pub joined_may : May → May → May
joined_may m n = record { missing = false; blank = m.blank && n.blank; inked = m.inked || n.inked }

-- numbers

abbrev pub any_number : Range
any_number = record { low = None; high = None }

abbrev pub exactly : ℤ → Range
exactly n = record { low = Some n; high = Some n }

abbrev pub from_to : ℤ → ℤ → Range
from_to n m = record { low = Some n; high = Some m }

abbrev pub at_least : ℤ → Range
at_least n = record { low = Some n; high = None }

-- 0 or 1
abbrev pub bit : Range
bit = from_to (pos 0) (pos 1)

-- a bound of 32 signed bits, or none
abbrev pub bounded : ℤ → Option ℤ
bounded n = if fits_number n then Some n else None

-- of two bounds, where there are both
abbrev pub bound_by : (ℤ → ℤ → ℤ) → Option ℤ → Option ℤ → Option ℤ
bound_by f (Some a) (Some b) = bounded (f a b)
bound_by f _ _ = None

abbrev pub sum_range : Range → Range → Range
sum_range r q = record { low = bound_by (λ a b. a +ℤ b) r.low q.low; high = bound_by (λ a b. a +ℤ b) r.high q.high }

abbrev pub difference_range : Range → Range → Range
difference_range r q =
    record { low = bound_by (λ a b. a -ℤ b) r.low q.high; high = bound_by (λ a b. a -ℤ b) r.high q.low }

-- whether one bound is there and surely below the other
abbrev pub is_under : Option ℤ → Option ℤ → Bool
is_under (Some a) (Some b) = int_lt a b
is_under _ _ = false

-- the same, where they may be equal
abbrev pub is_upto : Option ℤ → Option ℤ → Bool
is_upto (Some a) (Some b) = not (int_lt b a)
is_upto _ _ = false

-- whether a number of the first range is below one of the second: 1, 0 or either
abbrev pub less_range : Range → Range → Range
less_range r q =
    if is_under r.high q.low then exactly (pos 1) else (if is_upto q.high r.low then exactly (pos 0) else bit)

-- whether a field's value is missing, or blank
abbrev pub missing_range : May → Range
missing_range m =
    if not m.missing then exactly (pos 0) else (if m.blank || m.inked then bit else exactly (pos 1))

abbrev pub empty_range : May → Range
empty_range m =
    if not m.inked then exactly (pos 1) else (if m.missing || m.blank then bit else exactly (pos 0))

-- how many names a text has
abbrev pub names_range : May → Range
names_range m = if m.blank then at_least (pos 0) else at_least (pos 1)
