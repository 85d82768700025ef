use Rattle.std.proofs.Common.{◌≡◌, ◌++◌, drop, map}
use Rattle.serde_json.specs.View.{view}
use Rattle.bt_style_answers.specs.Outline.{symbol_of}
use Rattle.bt_style_answers.proofs.shown_style.ShownStyle.symbol_list.Given as goal

abbrev pub invariant-symbols : goal.invariant-symbols
invariant-symbols l = map view l.list.items ++ map (symbol_of l.self.counting l.self.text.now) (drop l.symbol-index l.symbols) ≡ map (symbol_of l.self.counting l.self.text.now) l.symbols
