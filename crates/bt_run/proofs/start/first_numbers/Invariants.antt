use Rattle.std.proofs.Common.{◌≡◌, map, take}
use Rattle.bt_run.specs.Meaning.{first_number}
use Rattle.bt_run.proofs.start.first_numbers.Given as goal

abbrev pub invariant-names : goal.invariant-names
invariant-names l = l.numbers.items ≡ map first_number (take l.name-index l.names)
