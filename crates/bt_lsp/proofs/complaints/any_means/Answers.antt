use Rattle.std.proofs.Common.{arith}
use Rattle.bt_mentions.specs.declared.linking.Link.{Link}
use Rattle.bt_mentions.specs.declared.linking.LinkKind.TheVariants.{Database}
use Rattle.bt_lsp.specs.Complaints.{or_means}
use Rattle.bt_places.proofs.MoreLemmas.{fold_next}
use Rattle.bt_lsp.proofs.complaints.any_means.Goals as goal

pub found-preserved : goal.found-preserved
found-preserved c =
    let none : Link = record { from = 0; to = 0; kind = Database } in
    fold_next (or_means c.args.text.now c.args.file.now) c.args.found.now c.found.link-index none _ _ _ (omega (arith, c.found-test.true)) c.in_ok-known.ensures c.found.invariant
