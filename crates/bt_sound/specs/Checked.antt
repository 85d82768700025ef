-- When a style's commands are checked: what is known of the globals before each of them, and where its steps lead.
use Rattle.std.specs.Prelude.{◌≡◌, ℕ, Bool, true, false, List, [], ◌∷◌, map, length, replicate, Some, None, if◌then◌else◌}
use Rattle.bt_style.specs.declared.style.Target.{Target}
use Rattle.bt_style.specs.declared.style.Action.{Action}
use Rattle.bt_style.specs.declared.style.Action.TheVariants.{Execute, Iterate, Reverse}
use Rattle.bt_style.specs.declared.style.Command.{Command}
use Rattle.bt_style.specs.Tree.{Called, End, Then}
use Rattle.bt_style.specs.Program.{Program}
use Rattle.bt_sound.specs.Known.{KnownVariables, KnownEntry, State, any_field, any_text, any_number, exactly}
use Rattle.bt_sound.specs.Reading.{only_blank}
use Rattle.bt_sound.specs.Below.{variables_within}
use Rattle.bt_sound.specs.Holds.{ForEach, Leads}
use Rattle.bt_sound.specs.Sound.{first_number}

-- nothing but how many variables there are
abbrev pub unknown_variables : List (List ℕ) → List (List ℕ) → KnownVariables
unknown_variables numbers texts =
    record { numbers = replicate (length numbers) any_number; texts = replicate (length texts) any_text }

abbrev pub unknown_entry : Program → KnownEntry
unknown_entry p =
    record { fields = replicate (length p.fields) any_field; variables = unknown_variables p.entry_numbers p.entry_texts }

-- the globals when a run begins
abbrev pub first_known : Program → KnownVariables
first_known p =
    record {
      numbers = map (λ name. exactly (first_number name)) p.global_numbers;
      texts = replicate (length p.global_texts) only_blank;
    }

-- what is known before a step, with an entry or without, where this is known of the globals
abbrev pub before_step : Program → Bool → KnownVariables → State
before_step p own globals =
    record { stack = []; entry = if own then Some (unknown_entry p) else None; globals = globals }

-- A name is checked, with an entry or without: from globals of which the first is known, its call leaves nothing on the
-- stack, and globals of which the second is known.
pub record IsChecked (p : Program) (types : List ℕ) (own : Bool) (t : Target) (before after : KnownVariables) : Type 0 where
  pub states : List State
  pub leads : Leads p types (Then (Called t) End) (before_step p own before ∷ []) states
  pub bare : ForEach (λ s. s.stack ≡ []) states
  pub within : ForEach (λ s. variables_within s.globals after ≡ true) states

-- the same of any number of calls: what is known afterwards was known before each of them
pub record IsCheckedOften (p : Program) (types : List ℕ) (t : Target) (before after : KnownVariables) : Type 0 where
  pub begins : variables_within before after ≡ true
  pub again : IsChecked p types true t after after

-- a command is checked
abbrev pub IsCheckedAction : Program → List ℕ → Action → KnownVariables → KnownVariables → Type 0
IsCheckedAction p types (Execute t) k l = IsChecked p types false t k l
IsCheckedAction p types (Iterate t) k l = IsCheckedOften p types t k l
IsCheckedAction p types (Reverse t) k l = IsCheckedOften p types t k l
IsCheckedAction p types _ k l = k ≡ l

-- commands in order are checked
abbrev pub AreChecked : Program → List ℕ → List Command → KnownVariables → Type 0
AreChecked p types [] k = Unit {0}
AreChecked p types (c ∷ cs) k =
    (l : KnownVariables) × IsCheckedAction p types c.action k l × AreChecked p types cs l

-- the commands of a style are checked, from globals of which no more is known than how a run begins
pub record IsCheckedStyle (p : Program) (types : List ℕ) : Type 0 where
  pub start : KnownVariables
  pub begins : variables_within (first_known p) start ≡ true
  pub checked : AreChecked p types p.commands start
