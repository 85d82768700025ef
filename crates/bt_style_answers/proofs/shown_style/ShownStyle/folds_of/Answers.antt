use Rattle.std.proofs.Common.{arith}
use Rattle.bt_style_answers.specs.Folding.{fold_of}
use Rattle.bt_style_answers.proofs.MoreLemmas.{filtered_read}
use Rattle.bt_style_answers.proofs.shown_style.ShownStyle.folds_of.Goals as goal

pub symbols-preserved : goal.symbols-preserved
symbols-preserved c =
    filtered_read (fold_of c.args.self.now.counting c.args.self.now.text.now) c.args.symbols.now c.symbols.symbol-index _ _ _ _ (omega (arith, c.symbols-test.true))
    c.in_ok-list.ensures c.symbols.invariant
