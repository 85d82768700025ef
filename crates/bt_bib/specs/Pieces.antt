-- What begins with an `@`. White space may separate all signs, and `( )` may replace the outer `{ }`.
--
-- | Piece    | Form                                |
-- |----------|-------------------------------------|
-- | comment  | `@comment`                          |
-- | string   | `@string{ name = value }`           |
-- | preamble | `@preamble{ value }`                |
-- | entry    | `@type{ key , field = value , .. }` |
--
-- A faulty item keeps what was read completely, and ends at its fault. The lines in a piece are relative to that of its
-- `@`.
use Rattle.std.specs.Prelude.{ℕ, ◌==◌, not, List, [], codes, Option, Some, None, Result, Ok, Err, if◌then◌else◌}
use Rattle.bt_text.specs.ByteTests.{left_brace}
use Rattle.bt_bib.specs.declared.spot.Spot.{Spot}
use Rattle.bt_bib.specs.declared.fault.ItemFault.TheVariants.{EndOfFile, ExpectedOpen, ExpectedEquals, ExpectedCommaOrClose}
use Rattle.bt_bib.specs.declared.fault.NameRole.TheVariants.{EntryType, StringName}
use Rattle.bt_bib.specs.declared.item.Closing.{Closing}
use Rattle.bt_bib.specs.declared.item.Closing.TheVariants.{Brace, Parenthesis}
use Rattle.bt_bib.specs.declared.item.Content.{Content}
use Rattle.bt_bib.specs.declared.item.Content.TheVariants as contents
use Rattle.bt_bib.specs.declared.item.Entry.{Entry}
use Rattle.bt_bib.specs.declared.item.Definition.{Definition}
use Rattle.bt_bib.specs.declared.item.Piece.{Piece}
use Rattle.bt_bib.specs.declared.item.Piece.TheVariants as pieces
use Rattle.bt_bib.specs.declared.keywords.Keyword.{Keyword}
use Rattle.bt_bib.specs.declared.keywords.Keyword.TheVariants as keywords
use Rattle.bt_bib.specs.declared.placed_pieces.PlacedPiece.{PlacedPiece}
use Rattle.bt_bib.specs.Spot.{Here, at, item_start, spot_from, here_from, after_byte}
use Rattle.bt_bib.specs.Scan.{first, run, after_run, after_white, sign, closing_sign, is_key_byte}
use Rattle.bt_bib.specs.Stop.{Stop, ◌>>=◌, value_read}
use Rattle.bt_bib.specs.Names.{word, name_ended, name}
use Rattle.bt_bib.specs.Many.{all}
use Rattle.bt_bib.specs.Values.{value}
use Rattle.bt_bib.specs.Fields.{next_field, name_ends}
use Rattle.bt_bib.specs.Keywords.{keyword_of}

-- a complete item, or one that ends at a fault
abbrev pub ended_item : ℕ → Content → Option Closing → Result Here Stop → Piece × Here
ended_item line content close (Ok end) =
    (pieces.Item (record { line = line; content = content; close = close; fault = None }), end)
ended_item line content close (Err stop) =
    (pieces.Item (record { line = line; content = content; close = close; fault = Some stop.0 }), stop.1)

-- an item whose fault comes before its opening sign
abbrev pub unopened : Content → Stop → Piece × Here
unopened content stop = ended_item 0 content None (Err stop)

-- how the item that opens here is closed
unfoldable pub opening : Here → Result (Closing × Here) Stop
opening h = elim (first h.rest) [
  | None ↦ Err (EndOfFile, h)
  | Some b ↦
      if b == left_brace then Ok (Brace, after_byte h)
      else if b == 40 then Ok (Parenthesis, after_byte h)
      else Err (ExpectedOpen, h)
]

-- after the closing sign
abbrev pub after_closing : Closing → Here → Result Here Stop
after_closing close h = sign (closing_sign close) ExpectedCommaOrClose h

-- `key , field = value , .. }`, from the key on
abbrev pub entry_item : List ℕ → Closing → Here → Piece × Here
entry_item kind close h =
    let fields = all (next_field close) (after_white (after_run (is_key_byte close) h)) in
    let entry : Entry = record { kind = Some kind; key = Some (run (is_key_byte close) h); fields = fields.0 } in
    ended_item h.spot.line (contents.Entry entry) (Some close) fields.1

-- `name = value }`, from the name on
abbrev pub string_item : Closing → Here → Piece × Here
string_item close h =
    let named = name StringName name_ends h in
    let valued = named >>= λ n. sign 61 ExpectedEquals (after_white n.1)
    >>= λ equals. value close (after_white equals) in
    let definition : Definition = record { name = value_read named; value = value_read valued } in
    let line : ℕ = elim definition.name [ Some name ↦ h.spot.line | None ↦ 0 ] in
    ended_item line (contents.Define definition) (Some close) (valued >>= λ v. after_closing close v.1)

-- `value }`, from the value on
abbrev pub preamble_item : Closing → Here → Piece × Here
preamble_item close h =
    let valued = value close h in
    ended_item 0 (contents.Preamble (value_read valued)) (Some close)
    (valued >>= λ v. after_closing close v.1)

-- an entry of which only the type was read, or nothing
abbrev pub unread_entry : Option (List ℕ) → Content
unread_entry kind = contents.Entry (record { kind = kind; key = None; fields = [] })

abbrev pub unread_string : Content
unread_string = contents.Define (record { name = None; value = None })

-- an item whose rest is read after its opening sign and white space
abbrev pub item_opened : Content → (Closing → Here → Piece × Here) → Result (Closing × Here) Stop → Piece × Here
item_opened unread read (Err stop) = unopened unread stop
item_opened unread read (Ok o) = read o.0 (after_white o.1)

-- the piece that a type begins, from the place after the type on
abbrev pub item_of_type : Keyword → List ℕ → Here → Piece × Here
item_of_type keywords.Comment kind h = (pieces.Comment, h)
item_of_type keywords.String kind h = item_opened unread_string string_item (opening (after_white h))
item_of_type keywords.Preamble kind h = item_opened (contents.Preamble None) preamble_item (opening (after_white h))
item_of_type keywords.Entry kind h = item_opened (unread_entry (Some kind)) (entry_item kind) (opening (after_white h))

-- the comment word or item that begins with a text's first byte, an `@`
unfoldable pub piece : List ℕ → Piece × Here
piece text = elim (word EntryType (after_white (after_byte (at item_start text)))) [
  | Err stop ↦ unopened (unread_entry None) stop
  | Ok w ↦ elim (name_ended EntryType (codes "{(") w.1) [
    | Err stop ↦ unopened (unread_entry (Some w.0)) stop
    | Ok end ↦ item_of_type (keyword_of w.0) w.0 end
  ]
]

-- a piece whose `@` is at a spot, and the text after it
abbrev pub placed : Spot → Piece × Here → PlacedPiece × Here
placed start p = (record { start = start; end = spot_from start p.1.spot; piece = p.0 }, here_from start p.1)

-- the next `@` with the piece that it begins, or none
unfoldable pub next_piece : Here → Option PlacedPiece × Here
next_piece h =
    (let at_sign = after_run (λ b. not (b == 64)) h in
    elim (first at_sign.rest) [
      | None ↦ (None, at_sign)
      | Some b ↦ (let p = placed at_sign.spot (piece at_sign.rest) in (Some p.0, p.1))
    ])
