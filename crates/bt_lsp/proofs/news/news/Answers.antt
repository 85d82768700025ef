use Rattle.std.proofs.Common.{List, ap, ◌∙◌, map, ◌++◌}
use Rattle.serde_json.specs.Data.{Data}
use Rattle.serde_json.specs.View.{view}
use Rattle.bt_documents.specs.declared.document.Document.{Document}
use Rattle.bt_lsp.specs.Announcing.{with_announced}
use Rattle.bt_lsp.specs.News.{all_published}
use Rattle.bt_lsp.proofs.news.news.Goals as goal

pub returns : goal.returns
returns g c =
    let server = c.args.server.now in
    let shown = g.P.Paper.shown in
    c.in_ok-told.ensures ∙ ap (λ (l : List Data). with_announced server.announced (shown server.paper) l)
    (c.in_ok-list.ensures ∙ ap (λ (docs : List Document). map view c.args.first.items ++ all_published shown server docs) c.as_slice.ensures)
