use Rattle.std.proofs.Common.{◌≡◌, map, take}
use Rattle.bt_run.proofs.sort_command.places_of.Given as goal

abbrev pub invariant-keyed : goal.invariant-keyed
invariant-keyed l = l.places ≡ map (λ k. k.1) (take l.place-index l.keyed)
