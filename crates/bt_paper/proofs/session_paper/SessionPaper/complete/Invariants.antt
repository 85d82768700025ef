use Rattle.bt_paper.specs.Paper.{text_at, KeepsTexts}
use Rattle.bt_paper.proofs.session_paper.SessionPaper.complete.Given as goal

abbrev pub invariant-rounds : goal.invariant-rounds
invariant-rounds g l = KeepsTexts (text_at l.fn.self.session l.fn.self.known) (text_at l.self.session l.self.known)
