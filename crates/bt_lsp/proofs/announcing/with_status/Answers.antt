use Rattle.std.proofs.Common.{ap, ◌∙◌, map, codes, ◌++◌, ◌∷◌, []}
use Rattle.serde_json.specs.Data.{Data}
use Rattle.serde_json.specs.View.{view}
use Rattle.bt_rpc.specs.Messages.{notification}
use Rattle.bt_places.proofs.AnnouncingLemmas.{asked_status}
use Rattle.bt_lsp.proofs.announcing.with_status.Goals as goal

pub returns : goal.returns
returns g c =
    let shown = g.P.Paper.shown c.args.paper.now in
    let list = map view c.args.list.items in
    asked_status c.args.is_asked (codes "bibtex/status") c.status.result shown.status list
    (map view c.in_ok-all.all.items) c.if-not-is_asked.false c.status.ensures
    (c.in_ok-all.ensures ∙ ap (λ (v : Data). list ++ notification (codes "bibtex/status") v ∷ []) c.in_ok-params.ensures)
