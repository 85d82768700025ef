use Rattle.std.proofs.Common.{arith}
use Rattle.bt_resolve.proofs.BeforeLemmas.{nothing_end, pieces_free}
use Rattle.bt_resolve.proofs.macros_before.strings_end.Goals as goal

pub pieces-init : goal.pieces-init
pieces-init c = λ i far. nothing_end i c.args.pieces.now (omega (arith, far))

pub pieces-preserved : goal.pieces-preserved
pieces-preserved c =
    pieces_free c.args.pieces.now c.pieces.k _ c.index-pieces-place.result c.pieces.invariant (omega (arith, c.pieces-test.true)) c.index-pieces-place.is (c.is_string.ensures c.if-is_string.false)
