-- What fields and variables, the key, the type and the preamble put on the stack.
use Rattle.std.specs.Prelude.{ℕ, List, [], Option, Some, None, slice_index_or, pos}
use Rattle.bt_actions.specs.declared.entry.Entry.{Entry}
use Rattle.bt_actions.specs.declared.complaint.Complaint.TheVariants.{NoEntry}
use Rattle.bt_actions.specs.Item.{Item, Num, Txt, Missing}
use Rattle.bt_actions.specs.World.{World, Act, entry_of}
use Rattle.bt_actions.specs.State.{pushed, pushed_in_error}

-- pushes a value of an entry; without an entry, gives an error and pushes the default
abbrev pub entry_or_error : (Entry → Item) → Item → Option Entry → World → Act
entry_or_error value default None w = pushed_in_error NoEntry default w
entry_or_error value default (Some e) w = pushed (value e) w

-- the same for the step's entry
abbrev pub of_entry : (Entry → Item) → Item → World → Act
of_entry value default w = entry_or_error value default (entry_of w) w

-- a field's value
abbrev pub field_item : ℕ → Option (List ℕ) → Item
field_item n None = Missing n
field_item n (Some t) = Txt t

-- a field of an entry
abbrev pub field_at : ℕ → Entry → Item
field_at n e = field_item n (slice_index_or e.fields n None)

-- an entry's variables
abbrev pub number_at : ℕ → Entry → Item
number_at n e = Num (slice_index_or e.variables.numbers n (pos 0))

abbrev pub text_at : ℕ → Entry → Item
text_at n e = Txt (slice_index_or e.variables.texts n [])

-- the text of a type; empty if no function of the style has its name
abbrev pub kind_shown : Option ℕ → List ℕ → List ℕ
kind_shown None kind = []
kind_shown (Some f) kind = kind

abbrev pub kind_item : Entry → Item
kind_item e = Txt (kind_shown e.function e.kind)

-- pushes the value of a global variable
abbrev pub global_number : ℕ → World → Act
global_number n w = pushed (Num (slice_index_or w.globals.numbers n (pos 0))) w

abbrev pub global_text : ℕ → World → Act
global_text n w = pushed (Txt (slice_index_or w.globals.texts n [])) w
