-- When a body is checked: from a world that is as one of some states says, each run of it leaves a world that is as one
-- of others says, and gives no excluded message before an overflow.
use Rattle.std.specs.Prelude.{◌≡◌, ℕ, true, List, [], ◌∷◌, Option, Some, None, if◌then◌else◌}
use Rattle.std.specs.List.{list_all}
use Rattle.bt_text.specs.ByteTests.{is_white}
use Rattle.bt_style.specs.Tree.{Element, Body}
use Rattle.bt_style.specs.Program.{Program}
use Rattle.bt_actions.specs.World.{World}
use Rattle.bt_machine.specs.Eval.{Counts, Ending, Done, Stopped, act, function_body, eval_within}
use Rattle.bt_sound.specs.Known.{Range, May, Known, Number, State, holding}
use Rattle.bt_sound.specs.Fits.{Here, Among, At}
use Rattle.bt_sound.specs.Reading.{only_blank, only_inked, upto_zero, above_zero, is_open}
use Rattle.bt_sound.specs.Excluded.{is_clean}

-- what an evaluation leaves
abbrev pub EndAt : List ℕ → List State → Ending → Type 0
EndAt types ss (Done w k) = At types ss w
EndAt types ss (Stopped w k) = is_clean w.messages ≡ true

-- a body leads from some states to others, however deep calls may be and whatever counts are left
abbrev pub Leads : Program → List ℕ → Body → List State → List State → Type 0
Leads p types b ss ts =
    (deep : ℕ) (w : World) (k : Counts) → Among types ss w → EndAt types ts (eval_within p deep b w k)

-- the same of an element, from one state
abbrev pub Does : Program → List ℕ → Element → State → List State → Type 0
Does p types e s ts =
    (deep : ℕ) (w : World) (k : Counts) → Here types s w → EndAt types ts (act p (eval_within p deep) e w k)

-- what holds of each state
abbrev pub ForEach : {A : Type 0} → (A → Type 0) → List A → Type 0
ForEach P [] = Unit {0}
ForEach P (x ∷ xs) = P x × ForEach P xs

-- other states say no more
abbrev pub Covers : List ℕ → List State → List State → Type 0
Covers types ss ts = (w : World) → Among types ss w → Among types ts w

-- a literal text
abbrev pub literal : List ℕ → May
literal t = if list_all is_white t then only_blank else only_inked

-- After the test of a loop there is a number on the top: where it may be above 0, the loop's body runs in one of some
-- states, and where it may not be, the loop ends in one of others.
pub record Turns (types : List ℕ) (goes ends : List State) (s : State) : Type 0 where
  pub range : Range
  pub below : List Known
  pub stack : s.stack ≡ Number range ∷ below
  pub above : is_open (above_zero range) ≡ true → Covers types (holding below s ∷ []) goes
  pub upto : is_open (upto_zero range) ≡ true → Covers types (holding below s ∷ []) ends

-- what the function `default.type` does, if there is one
abbrev pub DefaultLeads : Program → List ℕ → Option ℕ → State → List State → Type 0
DefaultLeads p types None s ts = Covers types (s ∷ []) ts
DefaultLeads p types (Some n) s ts = Leads p types (function_body p.functions n) (s ∷ []) ts
