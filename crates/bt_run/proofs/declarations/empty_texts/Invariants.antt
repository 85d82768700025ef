use Rattle.std.proofs.Common.{◌≡◌, [], map, take}
use Rattle.bt_run.proofs.declarations.empty_texts.Given as goal

abbrev pub invariant-names : goal.invariant-names
invariant-names l = l.texts.items ≡ map (λ name. []) (take l._name-index l.names)
