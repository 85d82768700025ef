-- A text that spells something is read as what it spells, without a fault.
use Rattle.std.specs.Prelude.{◌≡◌, ℕ, ◌-◌, false, ◌==◌, List, [], ◌∷◌, ◌++◌, take, drop, Ok, None, All}
use Rattle.bt_text.specs.ByteTests.{left_brace}
use Rattle.bt_bib.specs.declared.spot.Spot.{Spot}
use Rattle.bt_bib.specs.declared.item.Closing.{Closing}
use Rattle.bt_bib.specs.declared.item.Part.{Part}
use Rattle.bt_bib.specs.declared.item.Field.{Field}
use Rattle.bt_bib.specs.declared.item.Item.{Item}
use Rattle.bt_bib.specs.declared.item.Piece.{Piece}
use Rattle.bt_bib.specs.declared.item.Piece.TheVariants as pieces
use Rattle.bt_bib.specs.declared.placed_pieces.PlacedPiece.{PlacedPiece}
use Rattle.bt_bib.specs.Spot.{at, spot_after, start, item_start}
use Rattle.bt_bib.specs.Items.{PlacedItem}
use Rattle.bt_bib.specs.Scan.{closing_sign}
use Rattle.bt_bib.specs.Enclosure.{enclosed}
use Rattle.bt_bib.specs.Values.{part, part_ends, value}
use Rattle.bt_bib.specs.Fields.{field}
use Rattle.bt_bib.specs.Pieces.{piece}
use Rattle.bt_bib.specs.BibText.{pieces_of}
use Rattle.bt_bib.specs.laws.Laws.{as_piece}
use Rattle.bt_bib.specs.laws.Spelling.{◌▸◌, White, IsEnclosed, BeginsBy}
use Rattle.bt_bib.specs.laws.Spelled.{PartOf, ValueOf, FieldOf, ItemOf, DatabaseOf}

-- Text that may come before a closing sign is read up to that sign.
abbrev pub EnclosedTextsAreRead : Type 0
EnclosedTextsAreRead = (close : ℕ) (s : Spot) (text rest : List ℕ) →
    (close == left_brace) ≡ false → IsEnclosed close text →
    enclosed close (at s (text ++ close ∷ rest)) ≡ Ok (text, at (spot_after text s) (close ∷ rest))

-- A part and the white space after it, before a `#`, a comma or the closing sign, are read as that part.
abbrev pub SpelledPartsAreRead : Type 0
SpelledPartsAreRead = (close : Closing) (p : Part) (s : Spot) (text rest : List ℕ) →
    (PartOf p ▸ White) s text → BeginsBy (part_ends close) rest →
    part close (at s (text ++ rest)) ≡ Ok (p, at (spot_after text s) rest)

-- what may end a value or a field: a comma or the closing sign
abbrev pub value_ends : Closing → List ℕ
value_ends close = 44 ∷ closing_sign close ∷ []

abbrev pub SpelledValuesAreRead : Type 0
SpelledValuesAreRead = (close : Closing) (ps : List Part) (s : Spot) (text rest : List ℕ) →
    (ValueOf ps ▸ White) s text → BeginsBy (value_ends close) rest →
    value close (at s (text ++ rest)) ≡ Ok (ps, at (spot_after text s) rest)

abbrev pub SpelledFieldsAreRead : Type 0
SpelledFieldsAreRead = (close : Closing) (f : Field) (s : Spot) (text rest : List ℕ) →
    (FieldOf f ▸ White) s text → BeginsBy (value_ends close) rest →
    field close (at s (text ++ rest)) ≡ Ok (f, at (spot_after text s) rest)

-- An item is read as it is spelled, whatever follows it.
abbrev pub SpelledItemsAreRead : Type 0
SpelledItemsAreRead = (i : Item) (text rest : List ℕ) → ItemOf i text →
    piece (text ++ rest) ≡ (pieces.Item i, at (spot_after text item_start) rest)

-- So is a whole database.
abbrev pub SpelledDatabasesAreRead : Type 0
SpelledDatabasesAreRead = (ps : List PlacedPiece) (text : List ℕ) → DatabaseOf ps start text → pieces_of text ≡ ps

-- The other way round, the bytes of a text from the beginning of a faultless item up to its end spell it.
abbrev pub bytes_between : Spot → Spot → List ℕ → List ℕ
bytes_between begin end text = take (end.place - begin.place) (drop begin.place text)

abbrev pub FaultlessItemsAreSpelled : Type 0
FaultlessItemsAreSpelled = (text : List ℕ) (front back : List PlacedPiece) (i : PlacedItem) →
    pieces_of text ≡ front ++ as_piece i ∷ back → i.item.fault ≡ None →
    ItemOf i.item (bytes_between i.start i.end text)

-- A text that is read without a fault spells what is read.
abbrev pub IsFaultless : Piece → Type 0
IsFaultless pieces.Comment = Unit {0}
IsFaultless (pieces.Item item) = item.fault ≡ None

abbrev pub FaultlessDatabasesAreSpelled : Type 0
FaultlessDatabasesAreSpelled = (text : List ℕ) → All (λ (p : PlacedPiece). IsFaultless p.piece) (pieces_of text) →
    DatabaseOf (pieces_of text) start text
