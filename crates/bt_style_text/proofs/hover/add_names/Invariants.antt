use Rattle.std.proofs.Common.{◌≡◌, ◌++◌, drop}
use Rattle.bt_style_text.specs.Hover.{listed}
use Rattle.bt_style_text.proofs.hover.add_names.Given as goal

abbrev pub invariant-names : goal.invariant-names
invariant-names l = l.words ++ listed l.text (drop l.name-index l.names) ≡ l.initial.words ++ listed l.text l.names
