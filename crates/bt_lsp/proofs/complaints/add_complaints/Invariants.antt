use Rattle.std.proofs.Common.{◌≡◌, drop}
use Rattle.std.specs.List.{fold}
use Rattle.bt_lsp.specs.Complaints.{with_complaint}
use Rattle.bt_lsp.proofs.complaints.add_complaints.Given as goal

abbrev pub invariant-messages : goal.invariant-messages
invariant-messages g l =
    let add = with_complaint (g.P.Paper.shown l.paper) l.documents in
    fold add l.words (drop l.message-index l.messages) ≡ fold add l.fn.words l.messages
