use Rattle.std.proofs.Common.{◌≡◌, ◌++◌, drop, map}
use Rattle.serde_json.specs.View.{view}
use Rattle.bt_style_answers.specs.Folding.{folds_of}
use Rattle.bt_style_answers.proofs.shown_style.ShownStyle.folds_of.Given as goal

abbrev pub invariant-symbols : goal.invariant-symbols
invariant-symbols l =
    map view l.list.items ++ folds_of l.self.counting l.self.text.now (drop l.symbol-index l.symbols) ≡ folds_of l.self.counting l.self.text.now l.symbols
