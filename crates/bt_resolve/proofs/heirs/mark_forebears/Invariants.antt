use Rattle.bt_resolve.specs.inner.Heirs.{MarksAll}
use Rattle.bt_resolve.proofs.heirs.mark_forebears.Given as goal

abbrev pub invariant-chain : goal.invariant-chain
invariant-chain l = MarksAll l.initial.marks.items l.marks.items
