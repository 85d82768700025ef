use Rattle.std.proofs.Common.{arith}
use Rattle.bt_names.proofs.WritingLemmas.{begins_with, piece_longer, still_begins, written_longer}
use Rattle.bt_names.proofs.writing.push_pieces.Goals as goal

pub returns-then-is_longer : goal.returns-then-is_longer
returns-then-is_longer c =
    let cut = c.in-Some.ensures.some.2 c.args.parts.now in (
      piece_longer c.args.limit c.walk.out.items _ _ _ c.args.out.now.items _ cut c.walk.invariant.text c.walk.invariant.grown (c.is_longer.ensures c.if-is_longer.true),
      begins_with c.args.out.now.items c.walk.out.items _ _ c.walk.invariant.text c.walk.invariant.grown,
    )

pub returns-then-limit-saturating_sub : goal.returns-then-limit-saturating_sub
returns-then-limit-saturating_sub c =
    let cut = c.in-Some.ensures.some.2 c.args.parts.now in (
      written_longer c.args.limit c.walk.out.items _ _ _ c.args.out.now.items _ c.push_piece.new.out.items cut c.walk.invariant.text c.in_ok-push_piece.ensures (omega (arith, c.if-limit-saturating_sub.true, c.saturating_sub.ensures, c.len.ensures, c.len-start.ensures)),
      still_begins c.args.out.now.items c.walk.out.items _ _ _ c.push_piece.new.out.items c.walk.invariant.text c.walk.invariant.grown c.in_ok-push_piece.ensures,
    )
