-- The items of a database as an editor's outline.
use Rattle.std.specs.Prelude.{ℕ, nat_lt, ◌||◌, not, if◌then◌else◌, List, [], ◌∷◌, length, filter_map, Option, Some, None}
use Rattle.serde_json.specs.Data.{Data, null, array}
use Rattle.serde_json.specs.View.{items_of}
use Rattle.bt_bib.specs.BibText.{pieces_of}
use Rattle.bt_bib.specs.declared.placed_pieces.PlacedPiece.{PlacedPiece}
use Rattle.bt_positions.specs.declared.counting.Counting.{Counting}
use Rattle.bt_documents.specs.declared.document.Document.{Document}
use Rattle.bt_places.specs.Entries.{is_database, name_of, symbol_kind}
use Rattle.bt_shapes.specs.Shapes.{range_of, symbol}

-- the symbol of a name, unless it is empty, whose item goes from one offset to another
abbrev pub symbol_at : Counting → List ℕ → ℕ → ℕ → ℕ → List ℕ → Option Data
symbol_at c words kind from to [] = None
symbol_at c words kind from to (b ∷ name) =
    Some (symbol (b ∷ name) kind (range_of c words from to) (range_of c words from from))

-- the symbol of an item with a name
abbrev pub symbol_of : Counting → List ℕ → PlacedPiece → Option Data
symbol_of c words p = symbol_at c words (symbol_kind p.piece) p.start.place p.end.place (name_of p.piece)

-- the symbols of the items among pieces of a text
abbrev pub symbols_in : Counting → List ℕ → List PlacedPiece → List Data
symbols_in c words pieces = filter_map (symbol_of c words) pieces

-- the outline of a document, if it is a database of at most 1 GiB
abbrev pub symbols_of : Document → Data
symbols_of d =
    if not (is_database d.name) || nat_lt 1073741824 (length d.text) then null
    else array (items_of (symbols_in d.counting d.text (pieces_of d.text)))
