-- How a database is spelled, rule by rule, in the words of BibTeX's manual.
--
-- | What     | How it is spelled                                                                             |
-- |----------|-----------------------------------------------------------------------------------------------|
-- | part     | `{text}`, `"text"`, digits, or a macro's name                                                 |
-- | value    | a part, or several with `#` between them                                                      |
-- | field    | `name = value`                                                                                |
-- | fields   | `, field` any number of times, then the closing sign, with a comma before it or none          |
-- | entry    | `@type{key fields`, where the type is no keyword of the format                                |
-- | string   | `@string{name = value}`                                                                       |
-- | preamble | `@preamble{value}`                                                                            |
-- | comment  | `@comment`: what follows is spelled as if the word weren't there                              |
-- | database | text without `@`, and then any number of items and comments, each with such text after it    |
--
-- White space may separate all of these (`⋯`), and `( )` may replace the outer `{ }`.
use Rattle.std.specs.Prelude.{◌≡◌, ℕ, Bool, true, false, ◌&&◌, not, ◌==◌, List, [], ◌∷◌, codes, Some, None}
use Rattle.std.specs.List.{list_all}
use Rattle.bt_text.specs.ByteTests.{is_digit, left_brace, right_brace}
use Rattle.bt_text.specs.NameBytes.{is_name}
use Rattle.bt_bib.specs.declared.item.Closing.{Closing}
use Rattle.bt_bib.specs.declared.item.Closing.TheVariants.{Brace, Parenthesis}
use Rattle.bt_bib.specs.declared.item.Part.{Part}
use Rattle.bt_bib.specs.declared.item.Part.TheVariants.{Text, Macro}
use Rattle.bt_bib.specs.declared.item.Field.{Field}
use Rattle.bt_bib.specs.declared.item.Content.{Content}
use Rattle.bt_bib.specs.declared.item.Content.TheVariants as contents
use Rattle.bt_bib.specs.declared.item.Item.{Item}
use Rattle.bt_bib.specs.declared.item.Piece.{Piece}
use Rattle.bt_bib.specs.declared.item.Piece.TheVariants as pieces
use Rattle.bt_bib.specs.declared.placed_pieces.PlacedPiece.{PlacedPiece}
use Rattle.bt_bib.specs.declared.keywords.Keyword.{Keyword}
use Rattle.bt_bib.specs.declared.keywords.Keyword.TheVariants as keywords
use Rattle.bt_bib.specs.Spot.{item_start, spot_after}
use Rattle.bt_bib.specs.Scan.{closing_sign, is_key_byte}
use Rattle.bt_bib.specs.Keywords.{keyword_of}
use Rattle.bt_bib.specs.laws.Spelling.{Spelling, ◌▸◌, ◌or◌, ◌⋯◌, Bytes, White, Sign, OnLine, Provided, IsEnclosed, MayEndName}

-- signs
abbrev pub at_sign : ℕ
at_sign = 64

abbrev pub comma : ℕ
comma = 44

abbrev pub equals_sign : ℕ
equals_sign = 61

abbrev pub number_sign : ℕ
number_sign = 35

abbrev pub quote : ℕ
quote = 34

abbrev pub opening_sign : Closing → ℕ
opening_sign Brace = left_brace
opening_sign Parenthesis = 40

-- a name
abbrev pub NameOf : List ℕ → Spelling
NameOf name = Bytes name (is_name name ≡ true)

-- a text between an opening sign and a closing one
abbrev pub Enclosed : ℕ → ℕ → List ℕ → Spelling
Enclosed opening closing text = Sign opening ▸ Bytes text (IsEnclosed closing text) ▸ Sign closing

-- one digit or more
abbrev pub is_number : List ℕ → Bool
is_number [] = false
is_number (b ∷ rest) = is_digit b && list_all is_digit rest

-- a part of a value
abbrev pub PartOf : Part → Spelling
PartOf (Text text) =
    Enclosed left_brace right_brace text or Enclosed quote quote text or Bytes text (is_number text ≡ true)
PartOf (Macro name line) = OnLine line (NameOf name)

-- a part, and others after it
abbrev pub PartsOf : Part → List Part → Spelling
PartsOf p [] = PartOf p
PartsOf p (q ∷ ps) = PartOf p ⋯ Sign number_sign ⋯ PartsOf q ps

-- the spelling that no text has
abbrev pub Never : Spelling
Never s text = ⊥

-- a value has at least one part
abbrev pub ValueOf : List Part → Spelling
ValueOf [] = Never
ValueOf (p ∷ ps) = PartsOf p ps

-- `name = value`, on the line of the name
abbrev pub FieldOf : Field → Spelling
FieldOf f = OnLine f.line (NameOf f.name ⋯ Sign equals_sign ⋯ ValueOf f.value)

-- the rest of an entry after its key, up to the closing sign
abbrev pub FieldsOf : Closing → List Field → Spelling
FieldsOf close [] = Sign (closing_sign close) or Sign comma ⋯ Sign (closing_sign close)
FieldsOf close (f ∷ fs) = Sign comma ⋯ FieldOf f ⋯ FieldsOf close fs

-- A key ends before a byte that no key may contain.
abbrev pub EndsKey : Closing → List ℕ → Type 0
EndsKey close [] = ⊥
EndsKey close (b ∷ rest) = is_key_byte close b ≡ false

-- A key and the rest of its entry. An empty key has no white space after it: any that is there counts as before the
-- key.
abbrev pub Keyed : Closing → List ℕ → Spelling → Spelling
Keyed close [] A = Provided (EndsKey close) A
Keyed close (b ∷ key) A =
    Bytes (b ∷ key) (list_all (is_key_byte close) (b ∷ key) ≡ true) ▸ Provided (EndsKey close) (White ▸ A)

-- a word after `@` that begins this kind of piece
abbrev pub IsWord : Keyword → List ℕ → Type 0
IsWord keyword word = (is_name word ≡ true) × (keyword_of word ≡ keyword)

abbrev pub WordOf : Keyword → Spelling
WordOf keyword s word = IsWord keyword word

-- `@word{`, and what follows it
abbrev pub Head : Keyword → List ℕ → Closing → Spelling → Spelling
Head keyword word close A = Sign at_sign ⋯ Bytes word (IsWord keyword word) ⋯ Sign (opening_sign close) ⋯ A

-- an item without a fault
abbrev pub whole : ℕ → Content → Closing → Item
whole line content close = record { line = line; content = content; close = Some close; fault = None }

-- an item, from its `@` on: its line is that of an entry's key, of a string's name, or of a preamble's `@`
pub data ItemOf : Item → List ℕ → Type 0 where
  AnEntry : {text : List ℕ} {line : ℕ} {kind key : List ℕ} {fields : List Field} {close : Closing} →
      Head keywords.Entry kind close (OnLine line (Keyed close key (FieldsOf close fields))) item_start text →
      ItemOf (whole line (contents.Entry (record { kind = Some kind; key = Some key; fields = fields })) close) text
  AString : {text : List ℕ} {line : ℕ} {word name : List ℕ} {value : List Part} {close : Closing} →
      Head keywords.String word close
      (OnLine line (NameOf name ⋯ Sign equals_sign ⋯ ValueOf value ⋯ Sign (closing_sign close))) item_start text →
      ItemOf (whole line (contents.Define (record { name = Some name; value = Some value })) close) text
  APreamble : {text : List ℕ} {word : List ℕ} {value : List Part} {close : Closing} →
      Head keywords.Preamble word close (ValueOf value ⋯ Sign (closing_sign close)) item_start text →
      ItemOf (whole 0 (contents.Preamble (Some value)) close) text

-- text between the items
abbrev pub Skipped : Spelling
Skipped s text = list_all (λ b. not (b == at_sign)) text ≡ true

-- `@comment`
abbrev pub CommentWord : List ℕ → Type 0
CommentWord text = (Sign at_sign ⋯ WordOf keywords.Comment) item_start text

-- a piece without a fault, from its `@` on
abbrev pub PieceOf : Piece → List ℕ → Type 0
PieceOf pieces.Comment text = CommentWord text
PieceOf (pieces.Item item) text = ItemOf item text

-- a piece in a text, from one spot to another
abbrev pub PlacedOf : PlacedPiece → Spelling
PlacedOf p s text = (p.start ≡ s) × (p.end ≡ spot_after text s) × PieceOf p.piece text

-- what may follow a piece; after a comment word, only what may end a name
abbrev pub MayFollow : Piece → List ℕ → Type 0
MayFollow pieces.Comment text = MayEndName (codes "{(") text
MayFollow (pieces.Item item) text = Unit {0}

-- a whole text
abbrev pub DatabaseOf : List PlacedPiece → Spelling
DatabaseOf [] = Skipped
DatabaseOf (p ∷ ps) = Skipped ▸ PlacedOf p ▸ Provided (MayFollow p.piece) (DatabaseOf ps)
