use Rattle.std.proofs.Common.{◌≡◌, length}
use Rattle.bt_bib.specs.Items.{items_of}
use Rattle.bt_resolve.specs.inner.Databases.{after_items, state_of}
use Rattle.bt_resolve.proofs.databases.read_text.Given as goal

abbrev pub invariant-pieces : goal.invariant-pieces
invariant-pieces l = after_items l.asked l.database (state_of l.reading) (items_of l.left) ≡ after_items l.asked l.database (state_of l.initial.reading) (items_of l.initial.left)

abbrev pub decreases-pieces : goal.decreases-pieces
decreases-pieces l = length l.left
