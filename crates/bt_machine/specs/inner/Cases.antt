-- Parts of definitions, for the functions and lemmas that speak of them.
use Rattle.std.specs.Prelude.{true, false, None, [], ℕ, List, ◌∷◌, Option, replicate}
use Rattle.bt_actions.specs.World.{World, say}
use Rattle.bt_machine.specs.Eval.{Ending, Done, Stopped, Counts}
use Rattle.bt_machine.specs.Step.{Finish, finished_at, tick_limit}
use Rattle.bt_actions.specs.declared.complaint.Complaint.TheVariants.{LeftOver}
use Rattle.bt_style.specs.Tree.{End}
use Rattle.bt_style.specs.Program.{Definition}
use Rattle.bt_actions.specs.Item.{Item}

-- what a step counts at its beginning: all ticks are left, and there was no call
abbrev pub counts_begun : Counts
counts_begun = (tick_limit, replicate 37 0)

-- a step begins with an empty stack
abbrev pub step_begun : Option ℕ → World → World
step_begun x w = record w { current = x; stack = [] }

-- a stack that isn't empty at the end is an error
abbrev pub checked : List Item → World → World
checked stack w = elim stack [ [] ↦ w | v ∷ vs ↦ say LeftOver w ]

-- a function without elements, for a number out of range
abbrev pub no_definition : Definition
no_definition = record { name = []; body = End }

-- the world between steps
abbrev pub rested : World → World
rested w = record w { current = None; stack = [] }

-- what an evaluation leaves
abbrev pub finish_of : Ending → Finish
finish_of (Done w k) = finished_at (checked w.stack w) false k
finish_of (Stopped w k) = finished_at w true k
