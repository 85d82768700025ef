-- One value of many that are logged.
use Rattle.std.specs.Prelude.{Bool, true, false, List, [], ◌∷◌}
use Rattle.bt_style.specs.Program.{Program}
use Rattle.bt_actions.specs.Item.{Item}
use Rattle.bt_actions.specs.World.{World, with_stack}
use Rattle.bt_actions.specs.inner.Rows.{log_value}

-- the topmost of these values is logged and goes, if there is one, and whether there was
abbrev pub logged_from : Program → List Item → World → Bool × World
logged_from p [] w = (false, w)
logged_from p (v ∷ vs) w = (true, log_value p v (with_stack vs w))
