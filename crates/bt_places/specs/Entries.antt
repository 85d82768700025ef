-- The entry of a database in which a place lies.
use Rattle.std.specs.Prelude.{ℕ, ◌-◌, nat_le, ◌&&◌, Bool, if◌then◌else◌, List, [], ◌∷◌, drop, length, codes, bytes_eq, Option, Some, None}
use Rattle.bt_text.specs.CaseFolding.{is_same_folded}
use Rattle.bt_bib.specs.declared.item.Part.{Part}
use Rattle.bt_bib.specs.declared.item.Part.TheVariants.{Text, Macro}
use Rattle.bt_bib.specs.declared.item.Field.{Field}
use Rattle.bt_bib.specs.declared.item.Piece.{Piece}
use Rattle.bt_bib.specs.declared.item.Piece.TheVariants.{Comment, Item}
use Rattle.bt_bib.specs.declared.item.Content.{Content}
use Rattle.bt_bib.specs.declared.item.Content.TheVariants.{Entry, Define, Preamble}
use Rattle.bt_bib.specs.declared.placed_pieces.PlacedPiece.{PlacedPiece}

-- a key, or nothing
abbrev pub or_empty : Option (List ℕ) → List ℕ
or_empty None = []
or_empty (Some key) = key

-- the key of an entry; empty for anything else
abbrev pub content_key : Content → List ℕ
content_key (Entry entry) = or_empty entry.key
content_key (Define definition) = []
content_key (Preamble value) = []

-- the key of a piece that is an entry
abbrev pub key_of : Piece → List ℕ
key_of Comment = []
key_of (Item item) = content_key item.content

-- the type of an entry; empty for anything else
abbrev pub content_kind : Content → List ℕ
content_kind (Entry entry) = or_empty entry.kind
content_kind (Define definition) = []
content_kind (Preamble value) = []

-- the type of a piece that is an entry
abbrev pub kind_of : Piece → List ℕ
kind_of Comment = []
kind_of (Item item) = content_kind item.content

-- the first text or macro's name of a value
abbrev pub first_text : List Part → List ℕ
first_text [] = []
first_text (Text bytes ∷ ps) = bytes
first_text (Macro name line ∷ ps) = name

-- the same of the first field with a name
abbrev pub field_in : List ℕ → List Field → List ℕ
field_in name [] = []
field_in name (f ∷ fs) = if is_same_folded f.name name then first_text f.value else field_in name fs

-- the fields of an entry; none of anything else
abbrev pub content_fields : Content → List Field
content_fields (Entry entry) = entry.fields
content_fields (Define definition) = []
content_fields (Preamble value) = []

-- the fields of a piece that is an entry
abbrev pub fields_of : Piece → List Field
fields_of Comment = []
fields_of (Item item) = content_fields item.content

-- what an entry has in a field; empty for anything else
abbrev pub field_of : List ℕ → Piece → List ℕ
field_of name piece = field_in name (fields_of piece)

-- what an outline calls an item: its key, its macro's name, or `@preamble`
abbrev pub content_name : Content → List ℕ
content_name (Entry entry) = or_empty entry.key
content_name (Define definition) = or_empty definition.name
content_name (Preamble value) = codes "@preamble"

-- what an outline calls a piece; a comment word has no name
abbrev pub name_of : Piece → List ℕ
name_of Comment = []
name_of (Item item) = content_name item.content

-- the protocol's number for an item: 20 for a key, 14 for a constant, 15 for a string
abbrev pub content_symbol_kind : Content → ℕ
content_symbol_kind (Entry entry) = 20
content_symbol_kind (Define definition) = 14
content_symbol_kind (Preamble value) = 15

-- the protocol's number for a piece
abbrev pub symbol_kind : Piece → ℕ
symbol_kind Comment = 20
symbol_kind (Item item) = content_symbol_kind item.content

-- the first piece around a place
abbrev pub item_around : ℕ → List PlacedPiece → Option PlacedPiece
item_around place [] = None
item_around place (p ∷ ps) =
    if nat_le p.start.place place && nat_le place p.end.place then Some p else item_around place ps

-- the key of a piece, if there is one
abbrev pub key_if_any : Option PlacedPiece → List ℕ
key_if_any None = []
key_if_any (Some p) = key_of p.piece

-- the key of the first entry in which a place lies
abbrev pub key_in : ℕ → List PlacedPiece → List ℕ
key_in place pieces = key_if_any (item_around place pieces)

-- whether a name ends with an extension of four bytes
abbrev pub has_extension : List ℕ → List ℕ → Bool
has_extension extension name = nat_le 4 (length name) && bytes_eq (drop (length name - 4) name) extension

-- whether a file is a database, by its name
abbrev pub is_database : List ℕ → Bool
is_database name = has_extension (codes ".bib") name

-- whether a file is a style, by its name
abbrev pub is_style : List ℕ → Bool
is_style name = has_extension (codes ".bst") name

-- whether a file is a text of LaTeX, by its name
abbrev pub is_tex : List ℕ → Bool
is_tex name = has_extension (codes ".tex") name
