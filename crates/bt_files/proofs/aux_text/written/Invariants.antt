use Rattle.std.proofs.Common.{◌≡◌, ◌++◌, drop}
use Rattle.bt_files.specs.AuxText.{written_from, written}
use Rattle.bt_files.proofs.aux_text.written.Given as goal

abbrev pub invariant-items : goal.invariant-items
invariant-items l = l.text ++ written_from l.line (drop l.item-index l.items) ≡ written l.items
