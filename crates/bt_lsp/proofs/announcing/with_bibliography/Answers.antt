use Rattle.std.proofs.Common.{ap, ◌∙◌, map, codes, ◌++◌, ◌∷◌, []}
use Rattle.serde_json.specs.Data.{Data}
use Rattle.serde_json.specs.View.{view}
use Rattle.bt_rpc.specs.Messages.{notification}
use Rattle.bt_places.proofs.AnnouncingLemmas.{asked_text}
use Rattle.bt_lsp.proofs.announcing.with_bibliography.Goals as goal

pub returns : goal.returns
returns g c =
    let shown = g.P.Paper.shown c.args.paper.now in
    let list = map view c.args.list.items in
    asked_text c.args.is_asked (codes "bibtex/bbl") c.bibliography.result.now shown.bibliography c.status.result shown.status list
    (map view c.in_ok-all.all.items) c.if-not-is_asked.false c.bibliography.ensures c.status.ensures
    (c.in_ok-all.ensures ∙ ap (λ (v : Data). list ++ notification (codes "bibtex/bbl") v ∷ []) c.in_ok-params.ensures)
