use Rattle.std.proofs.Common.{arith}
use Rattle.serde_json.specs.View.{view}
use Rattle.bt_style_answers.specs.Outline.{symbol_of}
use Rattle.bt_style_answers.proofs.MoreLemmas.{mapped_read}
use Rattle.bt_style_answers.proofs.shown_style.ShownStyle.symbol_list.Goals as goal

pub symbols-preserved : goal.symbols-preserved
symbols-preserved c =
    mapped_read view (symbol_of c.args.self.now.counting c.args.self.now.text.now) c.args.symbols.now c.symbols.symbol-index _ _ _ _ _ (omega (arith, c.symbols-test.true))
    c.in_ok-push.ensures.items c.in_ok-symbol_of.ensures c.symbols.invariant
