use Rattle.std.proofs.Common.{◌≡◌, map, take}
use Rattle.bt_style.specs.Program.{Definition, definitions_of}
use Rattle.bt_run.proofs.declarations.names_of.Given as goal

abbrev pub invariant-functions : goal.invariant-functions
invariant-functions l = l.names ≡ map (λ (d : Definition). d.name) (definitions_of (take l.function-index l.functions))
