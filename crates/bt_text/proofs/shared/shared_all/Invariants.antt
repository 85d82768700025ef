use Rattle.std.proofs.Common.{◌≡◌, take}
use Rattle.bt_text.proofs.shared.shared_all.Given as goal

abbrev pub invariant-values : goal.invariant-values
invariant-values g l = l.same.items ≡ take l.value-index l.values
