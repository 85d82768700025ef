use Rattle.bt_paper.specs.Paper.{KeepsJob}
use Rattle.bt_paper.proofs.beginning.fill.Given as goal

abbrev pub invariant-names : goal.invariant-names
invariant-names g l = KeepsJob l.fn.draft l.draft
