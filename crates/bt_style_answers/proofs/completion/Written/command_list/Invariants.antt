use Rattle.std.proofs.Common.{◌≡◌, ◌++◌, drop, map}
use Rattle.serde_json.specs.View.{view}
use Rattle.bt_style_answers.specs.Completion.{command_item}
use Rattle.bt_style_answers.proofs.completion.Written.command_list.Given as goal

abbrev pub invariant-commands : goal.invariant-commands
invariant-commands l = map view l.list.items ++ map (command_item l.self) (drop l.command-index l.commands) ≡ map (command_item l.self) l.commands
