use Rattle.std.proofs.Common.{arith}
use Rattle.bt_mentions.specs.declared.linking.Link.{Link}
use Rattle.bt_mentions.specs.declared.linking.LinkKind.TheVariants.{Database}
use Rattle.bt_answers.specs.Faults.{with_faults_at}
use Rattle.bt_places.proofs.MoreLemmas.{fold_next}
use Rattle.bt_answers.proofs.faults.with_link_faults.Goals as goal

pub found-preserved : goal.found-preserved
found-preserved g c =
    let none : Link = record { from = 0; to = 0; kind = Database } in
    fold_next (with_faults_at (g.P.Paper.shown c.args.paper.now) c.args.document.now) c.args.found.now c.found.link-index none _ _ _ (omega (arith, c.found-test.true))
    c.in_ok-all.ensures c.found.invariant
