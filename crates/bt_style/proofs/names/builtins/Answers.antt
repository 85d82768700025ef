use Rattle.std.proofs.Common.{subst, List, IfOk}
use Rattle.std.specs.Option.{option_map}
use Rattle.bt_style.specs.declared.builtin.Builtin.{Builtin}
use Rattle.bt_style.specs.declared.style.Target.TheVariants as targets
use Rattle.bt_style.specs.Builtins.{table}
use Rattle.bt_style.specs.Names.{builtin_named}
use Rattle.bt_style.specs.inner.Names.{Holds, builtin_among}
use Rattle.bt_style.proofs.names.builtins.Goals as goal

pub returns : goal.returns
unfolding builtin_named table
returns c =
    let P : List Builtin → Type 0 = λ bs. IfOk c.put_builtins.result (λ ts. Holds ts (λ name. option_map targets.Builtin (builtin_among bs name))) in
    subst P c.as_slice.ensures c.put_builtins.ensures
