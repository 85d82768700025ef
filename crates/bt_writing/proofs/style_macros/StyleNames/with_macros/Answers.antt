use Rattle.std.proofs.Common.{arith}
use Rattle.bt_writing.specs.StyleMacros.{with_style_macro}
use Rattle.bt_places.proofs.MoreLemmas.{fold_next}
use Rattle.bt_writing.proofs.style_macros.StyleNames.with_macros.Goals as goal

pub marks-preserved : goal.marks-preserved
marks-preserved c =
    fold_next (with_style_macro c.args.self.now.written c.args.text.now) c.args.marks.now c.marks.one-index _ _ _ _ (omega (arith, c.marks-test.true))
    c.in_ok-all.ensures c.marks.invariant
