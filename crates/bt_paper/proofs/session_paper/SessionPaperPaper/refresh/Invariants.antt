use Rattle.bt_documents.specs.Documents.{Follows}
use Rattle.bt_paper.specs.Paper.{text_at}
use Rattle.bt_paper.proofs.session_paper.SessionPaperPaper.refresh.Given as goal

abbrev pub invariant-known : goal.invariant-known
invariant-known g l = Follows (text_at l.fn.self.session l.fn.self.known) l.documents → Follows (text_at l.self.session l.self.known) l.documents
