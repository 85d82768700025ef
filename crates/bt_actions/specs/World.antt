-- The world in which a style's functions run.
use Rattle.std.specs.Prelude.{ℕ, List, [], ◌∷◌, ◌++◌, Option, Some, None, option_map, slice_index_or}
use Rattle.bt_text.specs.declared.output.Output.{Output}
use Rattle.bt_actions.specs.declared.entry.Variables.{Variables}
use Rattle.bt_actions.specs.declared.entry.Entry.{Entry}
use Rattle.bt_log.specs.declared.message.Message.{Message}
use Rattle.bt_actions.specs.declared.complaint.Complaint.{Complaint}
use Rattle.bt_actions.specs.Item.{Item}
use Rattle.bt_actions.specs.Words.{message_of}

-- what a step works on
pub record World : Type 0 where
  -- all entries in list order
  pub entries : List Entry
  -- the place of the entry that the step is for
  pub current : Option ℕ
  pub globals : Variables
  pub preamble : List ℕ
  pub held : List ℕ
  -- all lines and messages so far
  pub lines : List (List ℕ)
  pub messages : List Message
  -- its top first
  pub stack : List Item

-- what an action leaves that runs no function: a world in which the run goes on, or one in which it stops
pub data Act : Type 0 where
  Goes : (w : World) → Act
  Stops : (w : World) → Act

-- empty variables and an empty entry: what a look-up out of range gives
abbrev pub no_variables : Variables
no_variables = record { numbers = []; texts = [] }

abbrev pub no_entry : Entry
no_entry = record { key = []; kind = []; function = None; fields = []; variables = no_variables }

-- the entry at a place, if a place is given
abbrev pub entry_in : List Entry → Option ℕ → Option Entry
entry_in es None = None
entry_in es (Some x) = Some (slice_index_or es x no_entry)

-- the entry that the step is for
abbrev pub entry_of : World → Option Entry
entry_of w = entry_in w.entries w.current

-- the key of the entry at a place
abbrev pub key_in : List Entry → Option ℕ → Option (List ℕ)
key_in es x = option_map (λ e. e.key) (entry_in es x)

-- the message for a complaint
abbrev pub told_message : World → Complaint → Message
told_message w m = message_of (key_in w.entries w.current) m

-- reports a complaint
abbrev pub say : Complaint → World → World
say m w = record w { messages = w.messages ++ told_message w m ∷ [] }

-- a world with another stack
abbrev pub with_stack : List Item → World → World
with_stack s w = record w { stack = s }

-- a world after this output: its lines come after the others, and it leaves another output buffer
abbrev pub with_output : Output → World → World
with_output o w = record w { lines = w.lines ++ o.lines; held = o.held }
