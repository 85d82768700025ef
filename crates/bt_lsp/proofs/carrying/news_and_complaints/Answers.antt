use Rattle.std.proofs.Common.{ap, ◌∙◌, ℕ, List, map}
use Rattle.serde_json.specs.Data.{Data}
use Rattle.serde_json.specs.View.{view}
use Rattle.bt_lsp.specs.Complaints.{complaints}
use Rattle.bt_lsp.specs.Desk.{news_with}
use Rattle.bt_lsp.proofs.carrying.news_and_complaints.Goals as goal

pub returns-clause-told : goal.returns-clause-told
returns-clause-told g c =
    let server = c.args.server.now in
    let shown = g.P.Paper.shown in
    let news : List ℕ → List Data → List Data = λ w first. news_with shown server w first server in
    c.in_ok-told.ensures ∙ ap (λ w. news w (map view c.in_ok-first.first.items))
    (c.as_slice-2.ensures ∙ c.in_ok-said.ensures ∙ ap (complaints (shown server.paper)) c.as_slice.ensures)
    ∙ ap (news (complaints (shown server.paper) server.documents)) c.in_ok-first.ensures
