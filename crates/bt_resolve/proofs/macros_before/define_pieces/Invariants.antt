use Rattle.std.proofs.Common.{◌≡◌, drop}
use Rattle.bt_bib.specs.Items.{items_of}
use Rattle.bt_text.specs.ByName.{known}
use Rattle.bt_resolve.specs.inner.Databases.{macros_after}
use Rattle.bt_resolve.proofs.macros_before.define_pieces.Given as goal

abbrev pub invariant-pieces : goal.invariant-pieces
invariant-pieces l = macros_after (known l.macros) (items_of (drop l.piece-index l.pieces)) ≡ macros_after (known l.initial.macros) (items_of l.pieces)
