use Rattle.std.proofs.Common.{◌≡◌, ◌+◌, map, drop, codes}
use Rattle.std.specs.Option.{option_map}
use Rattle.bt_style.specs.Program.{definitions_of}
use Rattle.bt_style.specs.Names.{place_in}
use Rattle.bt_style.proofs.reach.default_type.Given as goal

abbrev pub invariant-loop-place : goal.invariant-loop-place
invariant-loop-place l =
    option_map (λ n. n + l.place) (place_in (map (λ f. f.name) (definitions_of (drop l.place l.functions))) (codes "default.type"))
    ≡ place_in (map (λ f. f.name) (definitions_of l.functions)) (codes "default.type")
