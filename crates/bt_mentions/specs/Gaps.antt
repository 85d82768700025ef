-- The white space between the parts of an entry.
use Rattle.std.specs.Prelude.{ℕ, ◌+◌, ◌-◌, ◌==◌, min, Bool, true, false, if◌then◌else◌, List, [], ◌∷◌, ◌++◌, length, Option, Some, None}
use Rattle.std.specs.List.{cons_option, fold}
use Rattle.bt_text.specs.ByteTests.{is_white}
use Rattle.bt_bib.specs.declared.fault.ItemFault.{ItemFault}
use Rattle.bt_bib.specs.declared.item.Content.{Content}
use Rattle.bt_bib.specs.declared.item.Content.TheVariants.{Entry, Define, Preamble}
use Rattle.bt_bib.specs.declared.item.Item.{Item as ReadItem}
use Rattle.bt_bib.specs.declared.item.Piece.{Piece}
use Rattle.bt_bib.specs.declared.item.Piece.TheVariants.{Comment, Item}
use Rattle.bt_bib.specs.declared.placed_pieces.PlacedPiece.{PlacedPiece}
use Rattle.bt_mentions.specs.declared.inside.Inside.{Inside}
use Rattle.bt_mentions.specs.declared.inside.Inside.TheVariants.{Name, Value, Braced, Quoted}
use Rattle.bt_mentions.specs.declared.layout.Gap.{Gap}
use Rattle.bt_mentions.specs.declared.layout.Search.{Search}
use Rattle.bt_mentions.specs.Inside.{inside_after}
use Rattle.bt_mentions.specs.Databases.{part, opening_len, head_len}

-- whether a byte at a place of an item is a comma between its parts
abbrev pub is_separator : Inside → ℕ → Bool
is_separator (Name found) byte = byte == 44
is_separator (Value is_crossref) byte = byte == 44
is_separator (Braced is_crossref depth) byte = false
is_separator (Quoted is_crossref depth) byte = false

-- the gap that ends before a byte, if one does
abbrev pub gap_before : Option ℕ → ℕ → ℕ → Option Gap
gap_before None place byte = None
gap_before (Some from) place byte =
    if is_white byte then None else Some (record { from = from; to = place; is_last = false })

-- where the gap begins that ends with this byte, if there is one
abbrev pub begun_after : Option ℕ → Inside → ℕ → ℕ → Option ℕ
begun_after begun state place byte =
    if is_separator state byte then Some (place + 1) else (if is_white byte then begun else None)

-- the place after the last byte that isn't white space
abbrev pub solid_after : ℕ → ℕ → ℕ → ℕ
solid_after solid_end place byte = if is_white byte then solid_end else place + 1

-- a search after one more byte
abbrev pub gaps_after : Search → ℕ → Search
gaps_after s byte =
    record {
      state = inside_after s.state byte;
      place = s.place + 1;
      begun = begun_after s.begun s.state s.place byte;
      solid_end = solid_after s.solid_end s.place byte;
      found = s.found ++ cons_option (gap_before s.begun s.place byte) [];
    }

-- the gaps, and the last one, up to the place
abbrev pub all_gaps : Search → List Gap
all_gaps s = s.found ++ record { from = s.solid_end; to = s.place; is_last = true } ∷ []

-- the gaps of an entry whose fields are between two places of a text
abbrev pub gaps_between : List ℕ → ℕ → ℕ → List Gap
gaps_between text from to =
    let place = min from (length text) in
    all_gaps (fold gaps_after (record { state = Name 9; place = place; begun = None; solid_end = place; found = [] })
    (part place to text))

-- The place after the key of an entry between two places of a text. After an empty key it is the place after the opening
-- sign, so that white space there is a gap.
abbrev pub place_after_key : List ℕ → ℕ → ℕ → List ℕ → ℕ
place_after_key text start to [] = start + opening_len (part start to text)
place_after_key text start to (b ∷ key) = min (start + head_len (part start to text)) (length text) + length (b ∷ key)

-- the gaps after a key, if there is one
abbrev pub key_gaps : List ℕ → ℕ → ℕ → Option (List ℕ) → List Gap
key_gaps text start to None = []
key_gaps text start to (Some key) = gaps_between text (place_after_key text start to key) to

-- the gaps of an entry between two places of a text
abbrev pub content_gaps : List ℕ → ℕ → ℕ → Content → List Gap
content_gaps text start to (Entry entry) = key_gaps text start to entry.key
content_gaps text start to (Define definition) = []
content_gaps text start to (Preamble value) = []

-- the same, if there is no fault
abbrev pub faultless_gaps : List ℕ → ℕ → ℕ → Content → Option ItemFault → List Gap
faultless_gaps text start to content (Some fault) = []
faultless_gaps text start to content None = content_gaps text start to content

-- the gaps of an item
abbrev pub item_gaps : List ℕ → ℕ → ℕ → ReadItem → List Gap
item_gaps text start to i = faultless_gaps text start to i.content i.fault

-- the gaps of a piece between two places, of which the second is that of the closing sign
abbrev pub placed_gaps : List ℕ → ℕ → ℕ → Piece → List Gap
placed_gaps text start to Comment = []
placed_gaps text start to (Item i) = item_gaps text start to i

-- the gaps of an entry without a fault
abbrev pub gaps : List ℕ → PlacedPiece → List Gap
gaps text p = placed_gaps text (min p.start.place (length text)) (p.end.place - 1) p.piece
