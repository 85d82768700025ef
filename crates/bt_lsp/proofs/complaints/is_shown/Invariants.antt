use Rattle.std.proofs.Common.{◌≡◌, false, drop}
use Rattle.std.specs.List.{fold}
use Rattle.bt_lsp.specs.Complaints.{or_shown_in}
use Rattle.bt_lsp.proofs.complaints.is_shown.Given as goal

abbrev pub invariant-documents : goal.invariant-documents
invariant-documents g l =
    let add = or_shown_in (g.P.Paper.shown l.paper) l.message in
    fold add l.known (drop l.document-index l.documents) ≡ fold add false l.documents
