-- When a world is as a state says.
use Rattle.std.specs.Prelude.{◌≡◌, ℕ, ℤ, ◌≤ℤ◌, ◌<◌, Bool, true, List, [], ◌∷◌, length, Option, Some, None, if◌then◌else◌, nat_eq, ◌⊎◌}
use Rattle.std.specs.List.{list_all, list_any}
use Rattle.bt_text.specs.ByteTests.{is_white}
use Rattle.bt_actions.specs.declared.entry.Variables.{Variables}
use Rattle.bt_actions.specs.declared.entry.Entry.{Entry}
use Rattle.bt_actions.specs.Item.{Item, Num, Txt, Fun, Missing}
use Rattle.bt_actions.specs.World.{World, Act, Goes, Stops, entry_in}
use Rattle.bt_sound.specs.Known.{Range, May, Known, Number, Text, Run, KnownVariables, KnownEntry, State}
use Rattle.bt_sound.specs.Excluded.{is_clean, is_past}

-- two lists of one length, whose values belong together one by one
abbrev pub Each : {A B : Type 0} → (A → B → Type 0) → List A → List B → Type 0
Each R [] [] = Unit {0}
Each R [] (y ∷ ys) = ⊥
Each R (x ∷ xs) [] = ⊥
Each R (x ∷ xs) (y ∷ ys) = R x y × Each R xs ys

-- values

abbrev pub IsAtLeast : Option ℤ → ℤ → Type 0
IsAtLeast None n = Unit {0}
IsAtLeast (Some a) n = a ≤ℤ n

abbrev pub IsAtMost : Option ℤ → ℤ → Type 0
IsAtMost None n = Unit {0}
IsAtMost (Some a) n = n ≤ℤ a

abbrev pub IsIn : Range → ℤ → Type 0
IsIn r n = IsAtLeast r.low n × IsAtMost r.high n

-- whether a text is one that a field's value may be, by whether it is blank
abbrev pub allows : May → Bool → Bool
allows m blank = if blank then m.blank else m.inked

abbrev pub TextFits : May → List ℕ → Type 0
TextFits m t = allows m (list_all is_white t) ≡ true

abbrev pub FieldFits : May → Option (List ℕ) → Type 0
FieldFits m None = m.missing ≡ true
FieldFits m (Some t) = TextFits m t

abbrev pub Fits : Known → Item → Type 0
Fits (Number r) (Num n) = IsIn r n
Fits (Text m) (Txt t) = TextFits m t
Fits (Text m) (Missing f) = m.missing ≡ true
Fits (Run c) (Fun d) = c ≡ d
Fits _ _ = ⊥

-- variables, entries, worlds

abbrev pub VariablesFit : KnownVariables → Variables → Type 0
VariablesFit k v = Each IsIn k.numbers v.numbers × Each TextFits k.texts v.texts

-- whether the function of an entry's type, if it has one, is among these
abbrev pub is_named : List ℕ → Option ℕ → Bool
is_named types None = true
is_named types (Some f) = list_any (λ t. nat_eq t f) types

abbrev pub EntryFits : List ℕ → Option KnownEntry → Option Entry → Type 0
EntryFits types None None = Unit {0}
EntryFits types None (Some e) = ⊥
EntryFits types (Some k) None = ⊥
EntryFits types (Some k) (Some e) =
    (is_named types e.function ≡ true) × Each FieldFits k.fields e.fields × VariablesFit k.variables e.variables

-- no entry, or the place of one of them
abbrev pub IsPlaceIn : Option ℕ → List Entry → Type 0
IsPlaceIn None es = Unit {0}
IsPlaceIn (Some n) es = n < length es

-- all but the stack and the messages
abbrev pub RestFits : List ℕ → State → Option ℕ → List Entry → Variables → Type 0
RestFits types s x es globals =
    IsPlaceIn x es × EntryFits types s.entry (entry_in es x) × VariablesFit s.globals globals

-- a world that is as a state says, in which no message was excluded
abbrev pub Here : List ℕ → State → World → Type 0
Here types s w =
    (is_clean w.messages ≡ true) × RestFits types s w.current w.entries w.globals × Each Fits s.stack w.stack

-- a world after an overflow
abbrev pub Past : World → Type 0
Past w = (is_clean w.messages ≡ true) × (is_past w.messages ≡ true) × IsPlaceIn w.current w.entries

-- a world that is as one of some states says
abbrev pub Among : List ℕ → List State → World → Type 0
Among types [] w = ⊥
Among types (s ∷ ss) w = Here types s w ⊎ Among types ss w

-- the same, or after an overflow
abbrev pub At : List ℕ → List State → World → Type 0
At types ss w = Past w ⊎ Among types ss w

-- what an action leaves: such a world, or it stops with no excluded message
abbrev pub ActAt : List ℕ → List State → Act → Type 0
ActAt types ss (Goes w) = At types ss w
ActAt types ss (Stops w) = is_clean w.messages ≡ true
