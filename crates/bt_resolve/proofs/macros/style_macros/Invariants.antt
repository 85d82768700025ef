use Rattle.std.proofs.Common.{◌≡◌, ◌-◌, drop}
use Rattle.bt_text.specs.ByName.{known}
use Rattle.bt_resolve.specs.Macros.{style_macro}
use Rattle.bt_resolve.proofs.macros.style_macros.Given as goal

abbrev pub invariant-macros : goal.invariant-macros
invariant-macros l = known l.table ≡ style_macro (drop (l.count - l.behind) l.macros)
