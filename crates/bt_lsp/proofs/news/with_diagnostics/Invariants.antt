use Rattle.std.proofs.Common.{◌≡◌, ◌++◌, drop, map}
use Rattle.serde_json.specs.View.{view}
use Rattle.bt_lsp.specs.News.{all_published}
use Rattle.bt_lsp.proofs.news.with_diagnostics.Given as goal

abbrev pub invariant-documents : goal.invariant-documents
invariant-documents g l =
    map view l.told.items ++ all_published g.P.Paper.shown l.server (drop l.document-index l.documents) ≡ map view l.fn.first.items ++ all_published g.P.Paper.shown l.server l.documents
