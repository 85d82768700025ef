use Rattle.std.proofs.Common.{List, ap, ◌∙◌}
use Rattle.serde_json.specs.Data.{Data}
use Rattle.bt_lsp.specs.Announcing.{with_log, with_status}
use Rattle.bt_lsp.proofs.announcing.with_announced.Goals as goal

pub returns : goal.returns
returns g c =
    let shown = g.P.Paper.shown c.args.paper.now in
    c.in_ok-all.ensures ∙ ap (λ (l : List Data). with_status c.args.announced.status shown l) (c.in_ok-more.ensures ∙ ap (λ (l : List Data). with_log c.args.announced.log shown l) c.in_ok-list.ensures)
