use Rattle.std.proofs.Common.{◌≡◌, map, take}
use Rattle.bt_run.specs.inner.Cases.{known_macro}
use Rattle.bt_run.proofs.declarations.known_macros.Given as goal

abbrev pub invariant-macros : goal.invariant-macros
invariant-macros l = l.known ≡ map known_macro (take l.one-index l.macros)
