-- When two inputs agree in everything that a step can reach, and what the step then leaves.
use Rattle.std.specs.Prelude.{◌≡◌, ◌↔◌, Bool, List, Contains, Option, Some, None, option_map}
use Rattle.bt_style.specs.declared.style.Target.{Target}
use Rattle.bt_style.specs.Program.{Program}
use Rattle.bt_style.specs.Reach.{Reaches, is_among, keeps_held}
use Rattle.bt_actions.specs.declared.entry.Variables.{Variables}
use Rattle.bt_actions.specs.declared.entry.Entry.{Entry}
use Rattle.bt_machine.specs.declared.input.Input.{Input}
use Rattle.bt_machine.specs.declared.outcome.Outcome.{Outcome}
use Rattle.bt_machine.specs.Step.{step_in, outcome_of, function_of}
use Rattle.bt_machine.specs.Footprint.{pick, blend_globals, blend_own, input_over}

-- The second input has what is kept of the first: the target, the key, and each kept value.
abbrev pub Agree : (Target → Bool) → Input → Input → Type 0
Agree keep i j = input_over keep j i ≡ j

-- the names are those that a step with this input can reach
abbrev pub IsFootprint : Program → Input → List Target → Type 0
IsFootprint p i names = (t : Target) → Contains names t ↔ Reaches p (function_of i.entry) i.target t

-- the variables of an entry over an entry or none
abbrev pub own_over : (Target → Bool) → Option Entry → Variables → Variables
own_over keep None v = v
own_over keep (Some b) v = blend_own keep v b.variables

-- what a step left that is kept, and all else as an input has it
abbrev pub outcome_over : (Target → Bool) → Input → Outcome → Outcome
outcome_over keep b o =
    record {
      globals = blend_globals keep o.globals b.globals;
      variables = option_map (own_over keep b.entry) o.variables;
      held = pick (keeps_held keep) o.held b.held;
      lines = o.lines;
      messages = o.messages;
      stop = o.stop;
      calls = o.calls;
    }

-- what the step can't reach is as it was
abbrev pub RestStays : Program → Input → Outcome → Type 0
RestStays p i o = (names : List Target) → IsFootprint p i names → o ≡ outcome_over (is_among names) i o

-- A step leaves what it can't reach as it was.
abbrev pub LeavesTheRest : Program → Type 0
LeavesTheRest p = (i : Input) → RestStays p i (outcome_of (step_in p i))

-- the step of the second input costs the same as that of the first, and leaves the same in everything that it can reach
abbrev pub SameStep : Program → (Target → Bool) → Input → Input → Type 0
SameStep p keep i j =
    (outcome_of (step_in p j) ≡ outcome_over keep j (outcome_of (step_in p i))) ×
    ((step_in p j).cost ≡ (step_in p i).cost)

-- the same, if the names are those that the step of one of the two can reach
abbrev pub SameStepEither : Program → List Target → Input → Input → Type 0
SameStepEither p names i j =
    (IsFootprint p i names → SameStep p (is_among names) i j) ×
    (IsFootprint p j names → SameStep p (is_among names) i j)

-- If inputs agree in everything that the step of one of them can reach, their steps do the same.
abbrev pub AgreeingInputsSameStep : Program → Type 0
AgreeingInputsSameStep p =
    (names : List Target) (i j : Input) → Agree (is_among names) i j → SameStepEither p names i j

-- If inputs agree in these names, and the names are what one step can reach, they are what the other can reach.
abbrev pub AgreeingInputsSameReach : Program → Type 0
AgreeingInputsSameReach p =
    (names : List Target) (i j : Input) → Agree (is_among names) i j → IsFootprint p i names ↔ IsFootprint p j names

-- From what the step of the first input left, what that of the second leaves: in every style in which the first one's
-- left this, where the inputs agree in the names, and these are what the second one's may come to.
abbrev pub IsNextOutcome : List Target → Input → Outcome → Input → Outcome → Type 0
IsNextOutcome names i o j next =
    (p : Program) → o ≡ outcome_of (step_in p i) → IsFootprint p j names → Agree (is_among names) i j →
    next ≡ outcome_of (step_in p j)
