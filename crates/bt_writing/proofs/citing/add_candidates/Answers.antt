use Rattle.std.proofs.Common.{arith}
use Rattle.bt_writing.proofs.MoreLemmas.{candidates_more}
use Rattle.bt_writing.proofs.citing.add_candidates.Goals as goal

pub pieces-preserved : goal.pieces-preserved
pieces-preserved c =
    candidates_more c.args.written c.args.pieces.now c.pieces.piece-index c.piece-item.result _ _ _ (omega (arith, c.pieces-test.true)) c.piece-item.is
    c.in_ok-all.ensures c.pieces.invariant
