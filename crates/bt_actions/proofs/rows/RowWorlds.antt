-- The worlds and the messages of worked rows.
use Rattle.std.specs.Prelude.{◌≡◌, ℕ, pos, List, [], ◌∷◌, map, None, Some, codes}
use Rattle.bt_style.specs.declared.builtin.Builtin.{Builtin as Primitive}
use Rattle.bt_style.specs.Tree.{End}
use Rattle.bt_style.specs.Program.{Program}
use Rattle.bt_actions.specs.declared.entry.Entry.{Entry}
use Rattle.bt_log.specs.declared.message.Message.{Message}
use Rattle.bt_log.specs.declared.message.Rank.{Rank}
use Rattle.bt_log.specs.declared.message.Rank.TheVariants.{Error}
use Rattle.bt_log.specs.Message.{plain}
use Rattle.bt_actions.specs.Item.{Item}
use Rattle.bt_actions.specs.World.{World, Goes, no_variables}
use Rattle.bt_actions.specs.Actions.{basic}

-- a style of a few names
abbrev pub names : Program
names =
    record {
      fields = codes "crossref" ∷ codes "title" ∷ [];
      entry_numbers = codes "n" ∷ [];
      entry_texts = codes "sort.key$" ∷ [];
      global_numbers = codes "entry.max$" ∷ [];
      global_texts = codes "s" ∷ [];
      macros = [];
      functions = record { name = codes "f"; body = End } ∷ [];
      commands = [];
    }

-- two entries, the second with a function
abbrev pub other : Entry
other = record { key = codes "a"; kind = codes "odd"; function = None; fields = None ∷ Some (codes "A title") ∷ []; variables = no_variables }

abbrev pub cited : Entry
cited = record { key = codes "b"; kind = codes "book"; function = Some 0; fields = None ∷ Some (codes "B title") ∷ []; variables = record { numbers = pos 7 ∷ []; texts = codes "label" ∷ [] } }

-- a step for the second entry, for the first one, and for none
abbrev pub start : World
start =
    record {
      entries = other ∷ cited ∷ [];
      current = Some 1;
      globals = record { numbers = pos 8 ∷ []; texts = codes "all" ∷ [] };
      preamble = codes "pre";
      held = codes "so far ";
      lines = [];
      messages = [];
      stack = [];
    }

abbrev pub second : World
second = record start { current = Some 0 }

abbrev pub alone : World
alone = record start { current = None }

-- errors in these words, in a step for no entry
abbrev pub errors : List (List ℕ) → List Message
errors ts = map (plain Error) ts

-- a message in the step for the second entry
abbrev pub of_second : Rank → List ℕ → Message
of_second rank words = record (plain rank words) { entry = Some (codes "b") }

-- a step's world, with a stack, its top first
abbrev pub over : World → List Item → World
over w vs = record w { stack = vs }

-- the same with messages
abbrev pub told_in : World → List Item → List Message → World
told_in w vs ms = record w { stack = vs; messages = ms }

-- the error of a value that isn't there
abbrev pub no_value : List ℕ
no_value = codes "You can't pop an empty literal stack"

-- in the step for the second entry, a function makes of the one stack the other
abbrev pub Leaves : Primitive → List Item → List Item → Type 0
Leaves b before after = basic names b (over start before) ≡ Goes (over start after)

-- the same, with errors in these words
abbrev pub LeavesWithErrors : Primitive → List Item → List Item → List (List ℕ) → Type 0
LeavesWithErrors b before after words = basic names b (over start before) ≡ Goes (told_in start after (map (of_second Error) words))
