-- The parts of a database that an editor can fold.
use Rattle.std.specs.Prelude.{ℕ, min, nat_lt, ◌||◌, not, if◌then◌else◌, List, length, filter_map, Option}
use Rattle.serde_json.specs.Data.{Data, null, array}
use Rattle.serde_json.specs.View.{items_of}
use Rattle.bt_bib.specs.BibText.{pieces_of}
use Rattle.bt_bib.specs.declared.placed_pieces.PlacedPiece.{PlacedPiece}
use Rattle.bt_positions.specs.Positions.{position_of}
use Rattle.bt_positions.specs.declared.counting.Counting.{Counting}
use Rattle.bt_documents.specs.declared.document.Document.{Document}
use Rattle.bt_shapes.specs.Shapes.{fold_between}
use Rattle.bt_places.specs.Entries.{is_database}

-- a piece of a text, if it has more than a line
abbrev pub fold_of : Counting → List ℕ → PlacedPiece → Option Data
fold_of c words p =
    fold_between (position_of c (min p.start.place (length words)) words).line
    (position_of c (min p.end.place (length words)) words).line

-- the pieces of a text that have more than a line
abbrev pub folds_in : Counting → List ℕ → List PlacedPiece → List Data
folds_in c words pieces = filter_map (fold_of c words) pieces

-- what can be folded in a document, if it is a database of at most 1 GiB
abbrev pub folds_of : Document → Data
folds_of d =
    if not (is_database d.name) || nat_lt 1073741824 (length d.text) then null
    else array (items_of (folds_in d.counting d.text (pieces_of d.text)))
