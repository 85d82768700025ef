use Rattle.std.proofs.Common.{arith}
use Rattle.bt_places.specs.Visiting.{with_tex}
use Rattle.bt_places.proofs.MoreLemmas.{fold_more}
use Rattle.bt_places.proofs.visiting.with_texts.Goals as goal

pub documents-preserved : goal.documents-preserved
documents-preserved g c =
    fold_more (with_tex (g.V.Visit.added c.args.visitor.now)) c.args.documents.now c.documents.document-index c.document-item.result _ _ _ (omega (arith, c.documents-test.true))
    c.document-item.is c.in_ok-all.ensures c.documents.invariant
