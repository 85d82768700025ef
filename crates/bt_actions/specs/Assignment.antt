-- How `:=` gives values to variables.
use Rattle.std.specs.Prelude.{ℕ, Option, Some, None, option_map, slice_index_or, slice_set}
use Rattle.bt_style.specs.declared.builtin.Builtin.TheVariants.{Assign}
use Rattle.bt_style.specs.declared.style.Target.{Target}
use Rattle.bt_style.specs.declared.style.Target.TheVariants.{EntryNumber, EntryText, GlobalNumber, GlobalText}
use Rattle.bt_actions.specs.declared.entry.Variables.{Variables}
use Rattle.bt_actions.specs.declared.complaint.Complaint.TheVariants.{NoEntry, NotVariable, WrongKind}
use Rattle.bt_actions.specs.Item.{Item}
use Rattle.bt_actions.specs.World.{World, no_entry, say}
use Rattle.bt_actions.specs.Arguments.{as_number, as_text}

-- the variables with this value for one of them; nothing if the value is of the wrong kind
abbrev pub with_number : ℕ → Item → Variables → Option Variables
with_number n v vs = option_map (λ z. record vs { numbers = slice_set vs.numbers n z }) (as_number v)

abbrev pub with_text : ℕ → Item → Variables → Option Variables
with_text n v vs = option_map (λ t. record vs { texts = slice_set vs.texts n t }) (as_text v)

-- a world with other global variables, or with other variables of an entry
abbrev pub with_globals : Variables → World → World
with_globals vs w = record w { globals = vs }

abbrev pub with_own : ℕ → Variables → World → World
with_own x vs w =
    record w { entries = slice_set w.entries x (record (slice_index_or w.entries x no_entry) { variables = vs }) }

-- puts variables in place; if there are none, the value was of the wrong kind
abbrev pub put_if_right : (Variables → World → World) → Option Variables → World → World
put_if_right put None w = say (WrongKind Assign) w
put_if_right put (Some vs) w = put vs w

-- changes the variables of the step's entry
abbrev pub own_changed : (Variables → Option Variables) → Option ℕ → World → World
own_changed change None w = say NoEntry w
own_changed change (Some x) w = put_if_right (with_own x) (change (slice_index_or w.entries x no_entry).variables) w

-- gives a value to a name
abbrev pub assigned : Item × Target → World → World
assigned (v, EntryNumber n) w = own_changed (with_number n v) w.current w
assigned (v, EntryText n) w = own_changed (with_text n v) w.current w
assigned (v, GlobalNumber n) w = put_if_right with_globals (with_number n v w.globals) w
assigned (v, GlobalText n) w = put_if_right with_globals (with_text n v w.globals) w
assigned (v, _) w = say NotVariable w
