-- How the topmost value goes into a variable.
use Rattle.std.specs.Prelude.{List, [], ◌∷◌}
use Rattle.bt_style.specs.declared.style.Target.{Target}
use Rattle.bt_actions.specs.Item.{Item}
use Rattle.bt_actions.specs.Assignment.{assigned}
use Rattle.bt_actions.specs.World.{World, with_stack}

abbrev pub first_given : List Item → Target → World → World
first_given [] t w = w
first_given (v ∷ vs) t w = assigned (v, t) (with_stack vs w)

-- a name gets the topmost value, which goes
abbrev pub value_given : Target → World → World
value_given t w = first_given w.stack t w
