-- What `duplicate$` and `swap$` do.
use Rattle.std.specs.Prelude.{List, [], ◌∷◌}
use Rattle.bt_actions.specs.declared.complaint.Complaint.TheVariants.{EmptyStack}
use Rattle.bt_actions.specs.Item.{Item}
use Rattle.bt_actions.specs.World.{World, Act, Goes, say, with_stack}
use Rattle.bt_actions.specs.State.{pushed}

-- pushes the top value once more
abbrev pub duplicated : List Item → World → Act
duplicated [] w = Goes (say EmptyStack w)
duplicated (v ∷ vs) w = pushed v w

-- exchanges the two top values; a stack with fewer stays as it is
abbrev pub swapped : List Item → World → World
swapped (v ∷ u ∷ vs) w = with_stack (u ∷ v ∷ vs) w
swapped _ w = say EmptyStack w
