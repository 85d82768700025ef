use Rattle.std.proofs.Common.{arith}
use Rattle.serde_json.specs.View.{view}
use Rattle.bt_lsp.specs.News.{publication_of}
use Rattle.bt_places.proofs.MoreLemmas.{mapped_more}
use Rattle.bt_lsp.proofs.news.with_diagnostics.Goals as goal

pub documents-preserved : goal.documents-preserved
documents-preserved g c =
    mapped_more view (publication_of g.P.Paper.shown c.args.server.now) c.args.documents.now c.documents.document-index c.document-item.result _ _ _ _
    (omega (arith, c.documents-test.true)) c.document-item.is c.in_ok-push.ensures.items c.in_ok-publication_of.ensures c.documents.invariant
