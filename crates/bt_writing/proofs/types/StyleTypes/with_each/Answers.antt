use Rattle.std.proofs.Common.{arith}
use Rattle.bt_writing.specs.Types.{with_type}
use Rattle.bt_places.proofs.MoreLemmas.{fold_next}
use Rattle.bt_writing.proofs.types.StyleTypes.with_each.Goals as goal

pub types-preserved : goal.types-preserved
types-preserved c =
    let style = c.args.style in
    fold_next (with_type c.args.self.now.written style.text.now style.marks.now) c.args.some.now c.types.one-index _ _ _ _ (omega (arith, c.types-test.true))
    c.in_ok-all.ensures c.types.invariant
