use Rattle.std.proofs.Common.{◌≡◌, drop}
use Rattle.bt_style_text.specs.Hinting.{nearest_builtin}
use Rattle.bt_style_text.proofs.hinting.nearest_builtin.Given as goal

abbrev pub invariant-builtins : goal.invariant-builtins
invariant-builtins l =
    nearest_builtin l.name l.best (drop l.builtin-index l.builtins) ≡ nearest_builtin l.name l.fn.nearest l.builtins
