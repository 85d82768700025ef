-- The items among the pieces of a text.
use Rattle.std.specs.Prelude.{ℕ, List}
use Rattle.bt_bib.specs.Items.{PlacedItem, items_of}
use Rattle.bt_bib.specs.BibText.{pieces_of}

-- the items of a whole text
abbrev pub bib_items : List ℕ → List PlacedItem
bib_items text = items_of (pieces_of text)
