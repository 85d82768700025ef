use Rattle.std.proofs.Common.{arith}
use Rattle.bt_writing.specs.Types.{with_own_type}
use Rattle.bt_places.proofs.MoreLemmas.{fold_next}
use Rattle.bt_writing.proofs.types.StyleTypes.with_own.Goals as goal

pub marks-preserved : goal.marks-preserved
marks-preserved c =
    let style = c.args.style in
    fold_next (with_own_type c.args.self.now.written style.text.now style.marks.now) style.marks.now c.marks.mark-index _ _ _ _ (omega (arith, c.marks-test.true))
    c.in_ok-all.ensures c.marks.invariant
