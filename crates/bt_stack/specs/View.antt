-- What a step's state is as a world.
use Rattle.std.specs.Prelude.{◌≡◌, ℕ, List, [], Option, Some, None, map, option_map}
use Rattle.std.specs.Borrow.{Bor}
use Rattle.bt_actions.specs.declared.entry.Entry.{Entry}
use Rattle.bt_actions.specs.declared.entry.Variables.{Variables}
use Rattle.bt_actions.specs.declared.flow.Flow.{Flow}
use Rattle.bt_actions.specs.Words.{message_of}
use Rattle.bt_actions.specs.World.{World, Act, entry_of}
use Rattle.bt_actions.specs.View.{entries_in, act_of}
use Rattle.bt_stack.specs.declared.leaving.Left.{Left}
use Rattle.bt_stack.specs.declared.state.State.{State}

-- the entries of the step's world: its own, with the variables as they are now, or none
abbrev pub entries_seen : Option (Bor Entry) → Variables → List Entry
entries_seen entry own = entries_in (option_map (λ e. record e.now { variables = own }) entry)

-- the place of the step's entry among them
abbrev pub place_seen : Option (Bor Entry) → Option ℕ
place_seen entry = option_map (λ e. 0) entry

-- its key, as messages show it
abbrev pub key_seen : Option (Bor Entry) → Option (List ℕ)
key_seen entry = option_map (λ e. e.now.key) entry

-- the world of a step, which has its entry alone
abbrev pub world_of : State → World
world_of s =
    record {
      entries = entries_seen s.entry s.stack.own;
      current = place_seen s.entry;
      globals = s.stack.globals;
      preamble = s.preamble.now;
      held = s.held;
      lines = s.lines;
      messages = map (message_of (key_seen s.entry)) s.complaints;
      stack = s.stack.items;
    }

-- the action takes the one state to the other
abbrev pub Acts : (World → Act) → State → State → Flow → Type 0
Acts action old new flow = act_of flow (world_of new) ≡ action (world_of old)

-- the variables that stand for those of a step's entry: the entry's, or without one the style's
abbrev pub own_begun : Option Entry → Variables → Variables
own_begun None globals = globals
own_begun (Some entry) globals = entry.variables

-- the world before a step for an entry or for none, with no line held
abbrev pub world_begun : Option Entry → Variables → List ℕ → World
world_begun entry globals preamble =
    record {
      entries = entries_in entry;
      current = option_map (λ e. 0) entry;
      globals = globals;
      preamble = preamble;
      held = [];
      lines = [];
      messages = [];
      stack = [];
    }

-- the variables of the step's entry, if it has one
abbrev pub own_variables : World → Option Variables
own_variables w = option_map (λ e. e.variables) (entry_of w)

-- what a step leaves of its world
abbrev pub left_of : World → Left
left_of w =
    record {
      variables = (w.globals, own_variables w);
      held = w.held;
      lines = w.lines;
      messages = w.messages;
    }
