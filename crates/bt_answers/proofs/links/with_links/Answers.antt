use Rattle.std.proofs.Common.{arith}
use Rattle.bt_mentions.specs.declared.linking.Link.{Link}
use Rattle.bt_mentions.specs.declared.linking.LinkKind.TheVariants.{Database}
use Rattle.bt_answers.specs.Links.{with_link}
use Rattle.bt_places.proofs.MoreLemmas.{fold_next}
use Rattle.bt_answers.proofs.links.with_links.Goals as goal

pub links-preserved : goal.links-preserved
links-preserved g c =
    let none : Link = record { from = 0; to = 0; kind = Database } in
    fold_next (with_link (g.P.Paper.shown c.args.paper.now).files c.args.document.now) c.args.found.now c.links.link-index none _ _ _ (omega (arith, c.links-test.true))
    c.in_ok-all.ensures c.links.invariant
