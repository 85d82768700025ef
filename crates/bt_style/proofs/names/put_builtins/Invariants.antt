use Rattle.std.proofs.Common.{◌≤◌, drop, length}
use Rattle.std.specs.Option.{option_map}
use Rattle.bt_style.specs.declared.style.Target.TheVariants as targets
use Rattle.bt_style.specs.inner.Names.{Holds, builtin_among}
use Rattle.bt_style.proofs.names.put_builtins.Given as goal

abbrev pub invariant-builtins : goal.invariant-builtins
invariant-builtins l = record {
  within : l.left ≤ length l.builtins;
  so_far : Holds l.targets (λ name. option_map targets.Builtin (builtin_among (drop l.left l.builtins) name));
}

abbrev pub decreases-builtins : goal.decreases-builtins
decreases-builtins l = l.left
