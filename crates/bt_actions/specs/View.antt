-- The code's values as definitions see them.
use Rattle.std.specs.Prelude.{List, [], ◌∷◌, Option, Some, None}
use Rattle.bt_style.specs.Tree.{ops_body}
use Rattle.bt_actions.specs.declared.code.Code.{Code as HeldCode}
use Rattle.bt_actions.specs.declared.code.Code.TheVariants as code
use Rattle.bt_actions.specs.declared.entry.Entry.{Entry}
use Rattle.bt_actions.specs.declared.flow.Flow.{Flow}
use Rattle.bt_actions.specs.declared.flow.Flow.TheVariants.{Go, Stop}
use Rattle.bt_actions.specs.Item.{Code, Name, Block}
use Rattle.bt_actions.specs.World.{World, Act, Goes, Stops}

-- what can be run
abbrev pub code_seen : HeldCode → Code
code_seen (code.Name t) = Name t
code_seen (code.Block ops) = Block (ops_body ops.now)

-- one entry or none, as a list
abbrev pub entries_in : Option Entry → List Entry
entries_in None = []
entries_in (Some e) = e ∷ []

-- what an action leaves: whether the run goes on, and its world
abbrev pub act_of : Flow → World → Act
act_of Go w = Goes w
act_of Stop w = Stops w
