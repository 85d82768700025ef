use Rattle.std.proofs.Common.{arith}
use Rattle.bt_lsp.specs.Complaints.{or_shown_in}
use Rattle.bt_places.proofs.MoreLemmas.{fold_more}
use Rattle.bt_lsp.proofs.complaints.is_shown.Goals as goal

pub documents-preserved : goal.documents-preserved
documents-preserved g c =
    fold_more (or_shown_in (g.P.Paper.shown c.args.paper.now) c.args.message.now) c.args.documents.now c.documents.document-index c.document-item.result _ _ _ (omega (arith, c.documents-test.true)) c.document-item.is
    c.in_ok-known.ensures c.documents.invariant
