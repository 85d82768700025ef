use Rattle.std.proofs.Common.{◌≡◌, map, take, pos}
use Rattle.bt_run.proofs.declarations.zeros.Given as goal

abbrev pub invariant-names : goal.invariant-names
invariant-names l = l.numbers.items ≡ map (λ name. pos 0) (take l._name-index l.names)
