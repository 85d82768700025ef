use Rattle.std.proofs.Common.{◌≡◌, ◌++◌, drop, map}
use Rattle.serde_json.specs.View.{view}
use Rattle.bt_style_answers.specs.Completion.{builtin_item}
use Rattle.bt_style_answers.proofs.completion.Written.builtin_list.Given as goal

abbrev pub invariant-builtins : goal.invariant-builtins
invariant-builtins l = map view l.list.items ++ map (builtin_item l.self) (drop l.builtin-index l.builtins) ≡ map (builtin_item l.self) l.builtins
