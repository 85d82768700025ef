use Rattle.std.proofs.Common.{◌≡◌}
use Rattle.bt_paper.proofs.beginning.filled.Given as goal

abbrev pub invariant-rounds : goal.invariant-rounds
invariant-rounds g l = (l.draft.root ≡ l.root) × (l.draft.min ≡ 2)
