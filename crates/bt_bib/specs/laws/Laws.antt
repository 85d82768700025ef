-- Laws of the items of a text.
use Rattle.std.specs.Prelude.{◌≡◌, ℕ, ◌+◌, ◌-◌, ◌<◌, ◌≤◌, nat_lt, Bool, List, [], ◌∷◌, ◌++◌, length, take, drop, map, true, Option, Some, None, Ok, All}
use Rattle.std.specs.List.{list_all}
use Rattle.bt_bib.specs.declared.spot.Spot.{Spot}
use Rattle.bt_bib.specs.declared.fault.ItemFault.{ItemFault}
use Rattle.bt_bib.specs.declared.item.Closing.{Closing}
use Rattle.bt_bib.specs.declared.item.Part.{Part}
use Rattle.bt_bib.specs.declared.item.Part.TheVariants.{Text, Macro}
use Rattle.bt_bib.specs.declared.item.Field.{Field}
use Rattle.bt_bib.specs.declared.item.Content.{Content}
use Rattle.bt_bib.specs.declared.item.Content.TheVariants as contents
use Rattle.bt_bib.specs.declared.item.Piece.TheVariants as pieces
use Rattle.bt_bib.specs.declared.placed_pieces.PlacedPiece.{PlacedPiece}
use Rattle.bt_bib.specs.Spot.{Here, start}
use Rattle.bt_bib.specs.Many.{many, all}
use Rattle.bt_bib.specs.Values.{next_part}
use Rattle.bt_bib.specs.Fields.{next_field}
use Rattle.bt_bib.specs.Pieces.{next_piece}
use Rattle.bt_bib.specs.BibText.{pieces_of}
use Rattle.bt_bib.specs.laws.BibText.{bib_items}
use Rattle.bt_bib.specs.Items.{PlacedItem}
use Rattle.bt_bib.specs.Boundaries.{last_end, Rises, moved_piece}
use Rattle.bt_bib.specs.Splice.{is_boundary, IsSplice}

-- how far a boundary lies after the first place of a text
abbrev pub offset : Spot → Spot
offset a = record { place = a.place; line = a.line - 1 }

-- From a boundary on, the pieces of a text are those of its rest as a text of its own, moved.
abbrev pub RestIsMoved : Type 0
RestIsMoved = (text : List ℕ) (front back : List PlacedPiece) → pieces_of text ≡ front ++ back →
    (let a = last_end start front in back ≡ map (moved_piece (offset a)) (pieces_of (drop a.place text)))

-- A boundary of the old text below a splice is one of the new text.
abbrev pub BoundaryStays : Type 0
BoundaryStays = (old new : List ℕ) (begin end inserted place : ℕ) → IsSplice old new begin end inserted →
    place < begin → is_boundary (pieces_of old) place ≡ true → is_boundary (pieces_of new) place ≡ true

-- an item as a piece
abbrev pub as_piece : PlacedItem → PlacedPiece
as_piece i = record { start = i.start; end = i.end; piece = pieces.Item i.item }

-- The byte at a fault's place, or the text's end there, makes the fault final: each text that has the same bytes up to
-- and including that one has the same items before this one, and this one with the same fault.
abbrev pub FaultIsFinal : Type 0
FaultIsFinal = (text other : List ℕ) (front back : List PlacedPiece) (i : PlacedItem) (f : ItemFault) →
    pieces_of text ≡ front ++ as_piece i ∷ back → i.item.fault ≡ Some f →
    take (i.end.place + 1) other ≡ take (i.end.place + 1) text →
    (rest : List PlacedPiece) × (pieces_of other ≡ front ++ as_piece i ∷ rest)

-- a number that a byte can be
abbrev pub is_byte : ℕ → Bool
is_byte b = nat_lt b 256

-- The bytes of a faulty item before its fault's place begin a well-formed one: some other bytes after them make an item
-- without a fault that begins where the faulty one does. The pieces before it are unchanged.
pub record Completion (text : List ℕ) (front : List PlacedPiece) (i : PlacedItem) : Type 0 where
  pub rest : List ℕ
  pub bytes : list_all is_byte rest ≡ true
  pub whole : PlacedItem
  pub start : whole.start ≡ i.start
  pub faultless : whole.item.fault ≡ None
  pub read : pieces_of (take i.end.place text ++ rest) ≡ front ++ as_piece whole ∷ []

abbrev pub FaultIsFirst : Type 0
FaultIsFirst = (text : List ℕ) (front back : List PlacedPiece) (i : PlacedItem) (f : ItemFault) →
    pieces_of text ≡ front ++ as_piece i ∷ back → i.item.fault ≡ Some f → Completion text front i

-- Each line in a value is at least one line and at most another.
abbrev pub PartLiesIn : ℕ → ℕ → Part → Type 0
PartLiesIn low high (Text text) = Unit {0}
PartLiesIn low high (Macro name line) = (low ≤ line) × (line ≤ high)

abbrev pub ValueLiesIn : ℕ → ℕ → Option (List Part) → Type 0
ValueLiesIn low high None = Unit {0}
ValueLiesIn low high (Some parts) = All (PartLiesIn low high) parts

pub record FieldLiesIn (low high : ℕ) (f : Field) : Type 0 where
  pub line : (low ≤ f.line) × (f.line ≤ high)
  pub value : All (PartLiesIn f.line high) f.value

abbrev pub ContentLiesIn : ℕ → ℕ → Content → Type 0
ContentLiesIn low high (contents.Entry e) = All (FieldLiesIn low high) e.fields
ContentLiesIn low high (contents.Define d) = ValueLiesIn low high d.value
ContentLiesIn low high (contents.Preamble value) = ValueLiesIn low high value

-- The lines in an item, which are relative to its first line, lie between its first line and its last.
pub record LinesLieIn (i : PlacedItem) : Type 0 where
  pub line : i.start.line + i.item.line ≤ i.end.line
  pub content : ContentLiesIn i.item.line (i.end.line - i.start.line) i.item.content

-- In each text the spans of the pieces rise, up to the text's end, and the lines in each item lie inside the item.
abbrev pub SpansRise : Type 0
SpansRise = (text : List ℕ) → Rises (length text) 0 (pieces_of text)

abbrev pub LinesLieInside : Type 0
LinesLieInside = (text : List ℕ) → All LinesLieIn (bib_items text)

-- The definitions bound the number of readings by the number of bytes. Any larger bound gives the same result, since
-- the bound is never reached.
abbrev pub AnyBoundServes : Type 0
AnyBoundServes = (close : Closing) (reserve : ℕ) (h : Here) → length h.rest < reserve →
    (many (next_part close) reserve h ≡ all (next_part close) h) ×
    (many (next_field close) reserve h ≡ all (next_field close) h) ×
    (many (λ x. Ok (next_piece x)) reserve h ≡ all (λ x. Ok (next_piece x)) h)
