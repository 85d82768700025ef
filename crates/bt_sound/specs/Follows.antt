-- What the code finds: states that follow one another. The names of `Holds` as records, each over whole lists of states.
use Rattle.std.specs.Prelude.{◌≡◌, ℕ, Bool, true, false, List, [], ◌∷◌, ◌++◌}
use Rattle.bt_style.specs.declared.style.Action.{Action}
use Rattle.bt_style.specs.declared.style.Command.{Command}
use Rattle.bt_style.specs.declared.style.Target.{Target}
use Rattle.bt_style.specs.Tree.{Element, Body, Called, End, Then}
use Rattle.bt_style.specs.Program.{Program}
use Rattle.bt_actions.specs.Item.{Code}
use Rattle.bt_machine.specs.Eval.{code_body, default_type, function_body}
use Rattle.bt_sound.specs.Known.{Range, Known, Number, Run, KnownVariables, State, holding}
use Rattle.bt_sound.specs.Reading.{pushing, upto_zero, above_zero, is_open}
use Rattle.bt_sound.specs.Holds.{Leads, Does, ForEach, Covers, Turns, DefaultLeads}
use Rattle.bt_sound.specs.Below.{variables_within}
use Rattle.bt_sound.specs.Checked.{AreChecked, IsCheckedAction}

-- a state, if something is so
abbrev pub some_if : Bool → State → List State
some_if true s = s ∷ []
some_if false s = []

-- whether all that was put on the stack was taken
abbrev pub is_bare : State → Bool
is_bare s = elim s.stack [ [] ↦ true | k ∷ ks ↦ false ]

-- a body leads from the first states to the others
pub record Follows (p : Program) (types : List ℕ) (b : Body) (ss ts : List State) : Type 0 where
  pub leads : Leads p types b ss ts

-- an element does so from each of the first states
pub record Acts (p : Program) (types : List ℕ) (e : Element) (ss ts : List State) : Type 0 where
  pub each : ForEach (λ s. Does p types e s ts) ss

-- an element that calls no function makes these states of one
pub record Makes (e : Element) (s : State) (ts : List State) : Type 0 where
  pub does : (p : Program) (types : List ℕ) → Does p types e s ts

-- an element puts a value on the stack
pub record Pushes (e : Element) (k : Known) : Type 0 where
  pub does : (p : Program) (types : List ℕ) (s : State) → Does p types e s (pushing k s ∷ [])

-- the first states say no less than the others
pub record Covered (ss ts : List State) : Type 0 where
  pub covers : (types : List ℕ) → Covers types ss ts

-- the functions from which `if$` chooses, and the states in which each is run
pub record Chooses (s : State) (first second : Code) (above upto : List State) : Type 0 where
  pub range : Range
  pub below : List Known
  pub stack : s.stack ≡ Run second ∷ Run first ∷ Number range ∷ below
  pub above_is : above ≡ some_if (is_open (above_zero range)) (holding below s)
  pub upto_is : upto ≡ some_if (is_open (upto_zero range)) (holding below s)

-- the test and the body of a loop, and the state in which it begins
pub record Loops (s : State) (test body : Code) (first : List State) : Type 0 where
  pub below : List Known
  pub stack : s.stack ≡ Run body ∷ Run test ∷ below
  pub first_is : first ≡ holding below s ∷ []

-- after a loop's test: the states in which its body is run, and those in which it ends
pub record Splits (mids goes ends : List State) : Type 0 where
  pub turns : (types : List ℕ) → ForEach (Turns types goes ends) mids

-- the same for one state more
pub record SplitsOff (s : State) (goes ends goes' ends' : List State) : Type 0 where
  pub range : Range
  pub below : List Known
  pub stack : s.stack ≡ Number range ∷ below
  pub goes_is : goes' ≡ goes ++ some_if (is_open (above_zero range)) (holding below s)
  pub ends_is : ends' ≡ ends ++ some_if (is_open (upto_zero range)) (holding below s)

-- one turn of a loop, from its heads: the states in which it comes back, and those in which it ends
pub record Turned (p : Program) (types : List ℕ) (test body : Code) (heads back ends : List State) : Type 0 where
  pub mids : List State
  pub goes : List State
  pub tests : Leads p types (code_body test) heads mids
  pub splits : ForEach (Turns types goes ends) mids
  pub again : Leads p types (code_body body) goes back

-- the function `default.type` and those of these types are followed
pub record FollowsTypes (p : Program) (types ns : List ℕ) (s : State) (ts : List State) : Type 0 where
  pub default : DefaultLeads p types (default_type p.functions) s ts
  pub each : ForEach (λ n. Leads p types (function_body p.functions n) (s ∷ []) ts) ns

-- a name is called in a state, leads to others, and leaves nothing on the stack
pub record StepLeads (p : Program) (types : List ℕ) (s : State) (t : Target) (after : List State) : Type 0 where
  pub leads : Leads p types (Then (Called t) End) (s ∷ []) after
  pub bare : ForEach (λ s. s.stack ≡ []) after

-- no more is known of the globals than each of these states says
pub record GlobalsWithin (ss : List State) (k : KnownVariables) : Type 0 where
  pub within : ForEach (λ s. variables_within s.globals k ≡ true) ss

-- what follows from here on, follows the whole
pub record Continues (p : Program) (types : List ℕ) (rest whole : Body) (now start : List State) : Type 0 where
  pub continues : (ts : List State) → Leads p types rest now ts → Leads p types whole start ts

-- commands that are checked from here on are checked from the first
pub record CommandsContinue (p : Program) (types : List ℕ) (rest whole : List Command) (now start : KnownVariables) : Type 0 where
  pub continues : AreChecked p types rest now → AreChecked p types whole start

-- commands are checked
pub record CommandsLead (p : Program) (types : List ℕ) (cs : List Command) (start : KnownVariables) : Type 0 where
  pub checked : AreChecked p types cs start

-- a command is checked
pub record CommandLeads (p : Program) (types : List ℕ) (a : Action) (before after : KnownVariables) : Type 0 where
  pub checked : IsCheckedAction p types a before after
