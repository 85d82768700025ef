use Rattle.bt_documents.specs.Documents.{AreGiven, Follows}
use Rattle.bt_documents.proofs.open_documents.give_again.Given as goal

abbrev pub invariant-documents : goal.invariant-documents
invariant-documents g l = AreGiven l.fn.documents l.documents × (Follows (g.F.Files.text l.fn.files) l.fn.documents → Follows (g.F.Files.text l.files) l.documents)
