-- How built-in functions take their arguments. They pop all of them, the top first, and report each that isn't there.
-- Then, if any that was there is of the wrong kind, they give one more error.
use Rattle.std.specs.Prelude.{ℕ, ℤ, Bool, false, ◌||◌, List, Option, Some, None, if◌then◌else◌, is_none, option_and_then}
use Rattle.std.specs.Option.{option_zip}
use Rattle.bt_style.specs.declared.builtin.Builtin.{Builtin as Primitive}
use Rattle.bt_style.specs.declared.style.Target.{Target}
use Rattle.bt_actions.specs.declared.complaint.Complaint.TheVariants.{WrongKind}
use Rattle.bt_actions.specs.Item.{Code, Name, Block, Item, Num, Txt, Fun, Missing}
use Rattle.bt_actions.specs.World.{World, say}
use Rattle.bt_actions.specs.State.{popped}

-- the number that a value is, if it is one
abbrev pub as_number : Item → Option ℤ
as_number (Num n) = Some n
as_number _ = None

-- the text that a value is, if it is one
abbrev pub as_text : Item → Option (List ℕ)
as_text (Txt t) = Some t
as_text _ = None

-- the same for a text or a missing field, which has no text
abbrev pub as_field_text : Item → Option (Option (List ℕ))
as_field_text (Txt t) = Some (Some t)
as_field_text (Missing n) = Some None
as_field_text _ = None

-- the function that a value is, if it is one
abbrev pub as_code : Item → Option Code
as_code (Fun c) = Some c
as_code _ = None

-- the name that is quoted, if it is a quoted name
abbrev pub quoted_name : Code → Option Target
quoted_name (Name t) = Some t
quoted_name (Block b) = None

abbrev pub as_target : Item → Option Target
as_target v = option_and_then quoted_name (as_code v)

-- a value of any kind
abbrev pub as_any : Item → Option Item
as_any v = Some v

-- whether a value was there, but is of the wrong kind
abbrev pub is_wrong : {A : Type 0} → (Item → Option A) → Option Item → Bool
is_wrong kind None = false
is_wrong kind (Some v) = is_none (kind v)

-- one error, if a kind was wrong
abbrev pub judged : Primitive → Bool → World → World
judged b wrong w = if wrong then say (WrongKind b) w else w

-- three values, if all are there
abbrev pub all_three : {A B C : Type 0} → Option A → Option B → Option C → Option (A × B × C)
all_three (Some a) (Some b) (Some c) = Some (a, b, c)
all_three _ _ _ = None

-- pops one argument of this kind
abbrev pub taken : {A : Type 0} → Primitive → (Item → Option A) → World → Option A × World
taken b kind w =
    let top = popped w in
    (option_and_then kind top.0, judged b (is_wrong kind top.0) top.1)

-- pops two arguments of these kinds: the lower one and the top
abbrev pub taken_two : {A B : Type 0} → Primitive → (Item → Option A) → (Item → Option B) → World →
    Option (A × B) × World
taken_two b lower upper w =
    let top = popped w in
    let next = popped top.1 in (
      option_zip (option_and_then lower next.0) (option_and_then upper top.0),
      judged b (is_wrong upper top.0 || is_wrong lower next.0) next.1,
    )

-- pops three arguments of these kinds: the lowest one, the middle one and the top
abbrev pub taken_three : {A B C : Type 0} → Primitive → (Item → Option A) → (Item → Option B) → (Item → Option C) →
    World → Option (A × B × C) × World
taken_three b lower middle upper w =
    let top = popped w in
    let next = popped top.1 in
    let last = popped next.1 in (
      all_three (option_and_then lower last.0) (option_and_then middle next.0) (option_and_then upper top.0),
      judged b (is_wrong upper top.0 || is_wrong middle next.0 || is_wrong lower last.0) last.1,
    )
