-- What a sound style promises: no run of it gives an excluded message before an overflow.
use Rattle.std.specs.Prelude.{◌≡◌, ℕ, ℤ, pos, true, List, [], ◌∷◌, ◌++◌, map, length, codes, Option, Some, None, bytes_eq, if◌then◌else◌}
use Rattle.bt_style.specs.declared.style.Action.{Action}
use Rattle.bt_style.specs.declared.style.Action.TheVariants.{Execute, Iterate, Reverse}
use Rattle.bt_style.specs.declared.style.Command.{Command}
use Rattle.bt_style.specs.Program.{Program}
use Rattle.bt_actions.specs.declared.entry.Entry.{Entry}
use Rattle.bt_actions.specs.declared.entry.Variables.{Variables}
use Rattle.bt_log.specs.declared.message.Message.{Message}
use Rattle.bt_machine.specs.declared.input.Input.{Input}
use Rattle.bt_machine.specs.Step.{step_in}
use Rattle.bt_sound.specs.Excluded.{is_clean}
use Rattle.bt_sound.specs.Fits.{is_named}

-- Globals

-- the value of a global number when a run begins
abbrev pub first_number : List ℕ → ℤ
first_number name =
    if bytes_eq name (codes "entry.max$") then pos 250
    else if bytes_eq name (codes "global.max$") then pos 20000
    else pos 0

-- the globals when a run begins, as many as the style declares
abbrev pub first_globals : Program → Variables
first_globals p = record { numbers = map first_number p.global_numbers; texts = map (λ name. []) p.global_texts }

-- Entries

-- variables of these names
abbrev pub AreOf : List (List ℕ) → List (List ℕ) → Variables → Type 0
AreOf numbers texts v = (length v.numbers ≡ length numbers) × (length v.texts ≡ length texts)

-- An entry as a run under the style can have it: its type has no function or one of these, and it has as many fields and
-- variables as the style declares.
abbrev pub IsOf : Program → List ℕ → Entry → Type 0
IsOf p types e =
    (is_named types e.function ≡ true) × (length e.fields ≡ length p.fields) × AreOf p.entry_numbers p.entry_texts e.variables

abbrev pub IsOfSome : Program → List ℕ → Option Entry → Type 0
IsOfSome p types None = ⊥
IsOfSome p types (Some e) = IsOf p types e

-- Runs

-- The command runs this step: EXECUTE for no entry, ITERATE and REVERSE for some entry, with any values of its fields and
-- variables, any held line and any preamble.
abbrev pub Runs : Program → List ℕ → Action → Input → Type 0
Runs p types (Execute t) i = (i.target ≡ t) × (i.entry ≡ None)
Runs p types (Iterate t) i = (i.target ≡ t) × IsOfSome p types i.entry
Runs p types (Reverse t) i = (i.target ≡ t) × IsOfSome p types i.entry
Runs p types _ i = ⊥

abbrev pub AllRun : Program → List ℕ → Action → List Input → Type 0
AllRun p types a [] = Unit {0}
AllRun p types a (i ∷ is) = Runs p types a i × AllRun p types a is

-- the steps of a command: EXECUTE runs exactly one, ITERATE and REVERSE any number, and the other commands none
abbrev pub AreStepsOf : Program → List ℕ → Action → List Input → Type 0
AreStepsOf p types (Execute t) is = (i : Input) × (is ≡ i ∷ []) × Runs p types (Execute t) i
AreStepsOf p types a is = AllRun p types a is

-- the steps of commands in order: those of the first, then those of the others
abbrev pub AreStepsInOrder : Program → List ℕ → List Command → List Input → Type 0
AreStepsInOrder p types [] is = is ≡ []
AreStepsInOrder p types (c ∷ cs) is =
    (first : List Input) × (others : List Input) × (is ≡ first ++ others) × AreStepsOf p types c.action first ×
    AreStepsInOrder p types cs others

-- The messages of steps, one after the other: each is given the globals that the one before it left, and the first is
-- given these. After a step that stops the run, no other is made.
abbrev pub messages_from : Program → Variables → List Input → List Message
messages_from p globals [] = []
messages_from p globals (i ∷ is) =
    let left = step_in p (record i { globals = globals }) in
    left.world.messages ++ (if left.stopped then [] else messages_from p left.world.globals is)

-- No run of the style gives an excluded message before an overflow, where the entries have only these types. The runs are
-- those over databases, and more: an entry may come to a step with any variables, any number of times, in any order.
abbrev pub Promises : Program → List ℕ → Type 0
Promises p types =
    (steps : List Input) → AreStepsInOrder p types p.commands steps →
    is_clean (messages_from p (first_globals p) steps) ≡ true
