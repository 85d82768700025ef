-- What the functions and commands of a style may name: what is declared before them.
use Rattle.std.specs.Prelude.{ℕ, ◌<◌, length}
use Rattle.bt_style.specs.declared.style.Target.{Target}
use Rattle.bt_style.specs.declared.style.Target.TheVariants as targets
use Rattle.bt_style.specs.declared.style.Action.{Action}
use Rattle.bt_style.specs.declared.style.Action.TheVariants as actions
use Rattle.bt_style.specs.Program.{Program}

-- what a name stands for is declared, when this number of functions is defined
abbrev pub IsDeclared : Program → ℕ → Target → Type 0
IsDeclared p functions (targets.Builtin b) = Unit {0}
IsDeclared p functions (targets.Field n) = n < length p.fields
IsDeclared p functions (targets.EntryNumber n) = n < length p.entry_numbers
IsDeclared p functions (targets.EntryText n) = n < length p.entry_texts
IsDeclared p functions (targets.GlobalNumber n) = n < length p.global_numbers
IsDeclared p functions (targets.GlobalText n) = n < length p.global_texts
IsDeclared p functions (targets.Function n) = n < functions

-- what a command names is declared
abbrev pub NamesDeclared : Program → Action → Type 0
NamesDeclared p (actions.Execute t) = IsDeclared p (length p.functions) t
NamesDeclared p (actions.Iterate t) = IsDeclared p (length p.functions) t
NamesDeclared p (actions.Reverse t) = IsDeclared p (length p.functions) t
NamesDeclared p (actions.Function n) = n < length p.functions
NamesDeclared p (actions.Macro n) = n < length p.macros
NamesDeclared p _ = Unit {0}
