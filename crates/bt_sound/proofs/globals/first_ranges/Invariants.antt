use Rattle.std.proofs.Common.{◌≡◌, map, take}
use Rattle.bt_sound.specs.Known.{exactly}
use Rattle.bt_sound.specs.Sound.{first_number}
use Rattle.bt_sound.proofs.globals.first_ranges.Given as goal

abbrev pub invariant-names : goal.invariant-names
invariant-names l = l.ranges.items ≡ map (λ name. exactly (first_number name)) (take l.name-index l.names)
