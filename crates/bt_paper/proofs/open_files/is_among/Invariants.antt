use Rattle.std.proofs.Common.{◌≡◌, drop}
use Rattle.bt_paper.specs.Paper.{is_among}
use Rattle.bt_paper.proofs.open_files.is_among.Given as goal

abbrev pub invariant-documents : goal.invariant-documents
invariant-documents l = is_among l.name (drop l.document-index l.documents) ≡ is_among l.name l.documents
