-- What is seen of a stack that owns its texts: its items, and the variables of the step.
use Rattle.std.specs.Prelude.{ℕ, Bool, true, false, List, ◌∷◌, length, drop, Option, Some, None, nat_le, if◌then◌else◌}
use Rattle.bt_actions.specs.declared.entry.Variables.{Variables}
use Rattle.bt_actions.specs.Item.{Item, Txt}
use Rattle.bt_actions.specs.State.{text_size_limit}

pub record Desk : Type 0 where
  -- its top first
  pub items : List Item
  -- of the style
  pub globals : Variables
  -- of the step's entry; in a step without one they are nobody's
  pub own : Variables

-- the same variables beside other items
abbrev pub with_items : List Item → Desk → Desk
with_items items d = record d { items = items }

-- a text as an item, unless it is too long for the stack
abbrev pub short : List ℕ → Option Item
short t = if nat_le (length t) text_size_limit then Some (Txt t) else None

-- an item in place of so many of the topmost ones, if there is one, and whether there was
abbrev pub with_answer : Option Item → ℕ → Desk → Bool × Desk
with_answer None count d = (false, d)
with_answer (Some v) count d = (true, with_items (v ∷ drop count d.items) d)

-- other variables of the style, if there are any, and whether there were
abbrev pub with_globals : Option Variables → Desk → Bool × Desk
with_globals None d = (false, d)
with_globals (Some vs) d = (true, record d { globals = vs })

-- the same of the entry
abbrev pub with_own : Option Variables → Desk → Bool × Desk
with_own None d = (false, d)
with_own (Some vs) d = (true, record d { own = vs })
