use Rattle.std.proofs.Common.{arith}
use Rattle.bt_answers.specs.Folding.{fold_of}
use Rattle.bt_places.proofs.MoreLemmas.{filtered_more}
use Rattle.bt_answers.proofs.folding.folds_in.Goals as goal

pub pieces-preserved : goal.pieces-preserved
pieces-preserved c =
    filtered_more (fold_of c.args.document.now.counting c.args.document.now.text) c.args.pieces.now c.pieces.piece-index c.piece-item.result _ _ _ (omega (arith, c.pieces-test.true)) c.piece-item.is
    c.in_ok-list.ensures c.pieces.invariant
