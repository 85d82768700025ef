use Rattle.bt_resolve.proofs.ApartLemmas.{shown_cited}
use Rattle.bt_resolve.proofs.view.View.is_shown.Goals as goal

pub returns-then-is_cited_as : goal.returns-then-is_cited_as
returns-then-is_cited_as c =
    let v = c.args.self.now in
    shown_cited v.asked.now v.min v.family.now c.args.place (c.is_cited_as.ensures c.if-is_cited_as.true)
