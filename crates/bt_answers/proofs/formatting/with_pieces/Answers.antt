use Rattle.std.proofs.Common.{arith}
use Rattle.bt_answers.specs.Formatting.{with_asked_gaps}
use Rattle.bt_places.proofs.MoreLemmas.{fold_more}
use Rattle.bt_answers.proofs.formatting.with_pieces.Goals as goal

pub pieces-preserved : goal.pieces-preserved
pieces-preserved c =
    fold_more (with_asked_gaps c.args.page.now.counting c.args.page.now.end c.args.page.now.text.now c.args.page.now.scope) c.args.pieces.now c.pieces.piece-index c.piece-item.result _ _ _ (omega (arith, c.pieces-test.true)) c.piece-item.is
    c.in_ok-all.ensures c.pieces.invariant
