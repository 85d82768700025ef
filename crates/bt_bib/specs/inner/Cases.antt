-- Parts of rules, for the functions and lemmas that are about them.
use Rattle.bt_bib.specs.AuxLine.{item}
use Rattle.bt_bib.specs.Enclosure.{enclosed}
use Rattle.bt_bib.specs.Fields.{field, name_ends, next_field}
use Rattle.bt_bib.specs.Keywords.{keyword_of}
use Rattle.bt_bib.specs.Many.{all}
use Rattle.bt_bib.specs.Names.{name, name_ended}
use Rattle.bt_bib.specs.Pieces.{after_closing, item_of_type, next_piece, piece, placed, unopened, unread_entry}
use Rattle.bt_bib.specs.Scan.{after_run, after_white, closing_sign, first, is_key_byte, run, sign}
use Rattle.bt_bib.specs.Spot.{Here, after_byte}
use Rattle.bt_bib.specs.Stop.{Stop, value_read, ◌>>=◌}
use Rattle.bt_bib.specs.Values.{part, part_ends, value}
use Rattle.bt_bib.specs.declared.aux_line.AuxItem.{AuxItem}
use Rattle.bt_bib.specs.declared.aux_line.Command.{Command}
use Rattle.bt_bib.specs.declared.fault.ItemFault.{ItemFault}
use Rattle.bt_bib.specs.declared.fault.ItemFault.TheVariants.{BadNameEnd, EndOfFile, ExpectedCommaOrClose, ExpectedEquals, ExpectedOpen, MissingName, MissingPart, UnbalancedBraces}
use Rattle.bt_bib.specs.declared.fault.NameRole.{NameRole}
use Rattle.bt_bib.specs.declared.fault.NameRole.TheVariants.{EntryType, FieldPart, StringName}
use Rattle.bt_bib.specs.declared.item.Closing.{Closing}
use Rattle.bt_bib.specs.declared.item.Closing.TheVariants.{Brace, Parenthesis}
use Rattle.bt_bib.specs.declared.item.Definition.{Definition}
use Rattle.bt_bib.specs.declared.item.Entry.{Entry}
use Rattle.bt_bib.specs.declared.item.Field.{Field}
use Rattle.bt_bib.specs.declared.item.Part.{Part}
use Rattle.bt_bib.specs.declared.item.Part.TheVariants.{Macro, Text}
use Rattle.bt_bib.specs.declared.item.Piece.{Piece}
use Rattle.bt_bib.specs.declared.placed_pieces.PlacedPiece.{PlacedPiece}
use Rattle.bt_bib.specs.declared.spot.Spot.{Spot}
use Rattle.bt_text.specs.ByteTests.{is_digit, is_white, left_brace, right_brace}
use Rattle.bt_text.specs.NameBytes.{is_name_byte}
use Rattle.std.specs.List.{list_any}
use Rattle.std.specs.Prelude.{[], Bool, false, Err, List, None, Ok, Option, Result, Some, codes, if◌then◌else◌, not, ℕ, ◌&&◌, ◌==◌, ◌||◌, ◌∷◌}

abbrev pub type_ended : List ℕ → Result Here Stop → Piece × Here
type_ended kind (Err stop) = unopened (unread_entry (Some kind)) stop
type_ended kind (Ok h) = item_of_type (keyword_of kind) kind h

-- after a comma: a field, or the end of the entry
abbrev pub field_or_close : Closing → Here → Option ℕ → Result (Option Field × Here) Stop
field_or_close close h None = Err (EndOfFile, h)
field_or_close close h (Some b) =
    if b == closing_sign close then Ok (None, after_byte h) else (field close h >>= λ x. Ok (Some x.0, x.1))

abbrev pub many_by : {A : Type 0} → (Here → List A × Result Here Stop) → Result (Option A × Here) Stop →
    List A × Result Here Stop
many_by later (Err stop) = ([], Err stop)
many_by later (Ok (None, h)) = ([], Ok h)
many_by later (Ok (Some a, h)) = (let others = later h in (a ∷ others.0, others.1))

abbrev pub type_read : Result (List ℕ × Here) Stop → Piece × Here
type_read (Err stop) = unopened (unread_entry None) stop
type_read (Ok w) = type_ended w.0 (name_ended EntryType (codes "{(") w.1)

-- a piece whose `@` is at a spot, as the next one
abbrev pub next_at : Spot → Piece × Here → Option PlacedPiece × Here
next_at start x = (let p = placed start x in (Some p.0, p.1))

abbrev pub next_piece_from : Here → Option ℕ → Option PlacedPiece × Here
next_piece_from h None = (None, h)
next_piece_from h (Some b) = next_at h.spot (piece h.rest)

-- `key , field = value , .. }`, from the key on
abbrev pub entry_read : List ℕ → Closing → Here → Entry × Result Here Stop
entry_read kind close h =
    let fields = all (next_field close) (after_white (after_run (is_key_byte close) h)) in
    (record { kind = Some kind; key = Some (run (is_key_byte close) h); fields = fields.0 }, fields.1)

-- `name = value }`, from the name on
abbrev pub string_read : Closing → Here → Definition × Result Here Stop
string_read close h =
    let named = name StringName name_ends h in
    let valued = named >>= λ n. sign 61 ExpectedEquals (after_white n.1)
    >>= λ equals. value close (after_white equals) in
    (record { name = value_read named; value = value_read valued }, valued >>= λ v. after_closing close v.1)

-- `value }`, from the value on
abbrev pub preamble_read : Closing → Here → Option (List Part) × Result Here Stop
preamble_read close h = (let valued = value close h in (value_read valued, valued >>= λ v. after_closing close v.1))

abbrev pub word_from : NameRole → Here → Option ℕ → Result (List ℕ × Here) Stop
word_from what h None = Err (EndOfFile, h)
word_from what h (Some b) =
    if is_name_byte b && not (is_digit b) then Ok (run is_name_byte h, after_run is_name_byte h)
    else Err (MissingName what, h)

abbrev pub ended_from : NameRole → List ℕ → Here → Option ℕ → Result Here Stop
ended_from what signs h None = Ok h
ended_from what signs h (Some b) =
    if is_white b || list_any (λ sign. sign == b) signs then Ok h else Err (BadNameEnd what b, h)

abbrev pub sign_from : ℕ → ItemFault → Here → Option ℕ → Result Here Stop
sign_from expected fault h None = Err (EndOfFile, h)
sign_from expected fault h (Some b) = if b == expected then Ok (after_byte h) else Err (fault, h)

-- the byte can't begin an item
abbrev pub is_text : ℕ → Bool
is_text b = not (b == 64)

-- the next piece, which no fault stops
abbrev pub next_one : Here → Result (Option PlacedPiece × Here) Stop
next_one h = Ok (next_piece h)

-- the pieces from here on
abbrev pub pieces_from : Here → List PlacedPiece
pieces_from h = (all next_one h).0

-- the line of a name that was read, else that of the `@`
abbrev pub name_line : ℕ → Option (List ℕ) → ℕ
name_line line None = 0
name_line line (Some name) = line

abbrev pub is_comma : ℕ → Bool
is_comma b = b == 44

-- a line before later ones, if it counts
abbrev pub if_counted : ℕ → List ℕ → List AuxItem → Option Command → List AuxItem
if_counted n line later None = later
if_counted n line later (Some c) = item n line c ∷ later

abbrev pub part_from : Closing → Here → Option ℕ → Result (Part × Here) Stop
part_from close h None = Err (EndOfFile, h)
part_from close h (Some b) =
    if b == left_brace then (enclosed right_brace (after_byte h) >>= λ x. Ok (Text x.0, after_byte x.1))
    else if b == 34 then (enclosed 34 (after_byte h) >>= λ x. Ok (Text x.0, after_byte x.1))
    else if is_digit b then Ok (Text (run is_digit h), after_run is_digit h)
    else if is_name_byte b then (name FieldPart (part_ends close) h >>= λ n. Ok (Macro n.0 h.spot.line, n.1))
    else Err (MissingPart, h)

-- a part, before the white space after it
abbrev pub raw_part : Closing → Here → Result (Part × Here) Stop
raw_part close h = part_from close h (first h.rest)

abbrev pub joined_from : Closing → Here → Option ℕ → Result (Option Part × Here) Stop
joined_from close h None = Ok (None, h)
joined_from close h (Some b) =
    if b == 35 then (part close (after_white (after_byte h)) >>= λ x. Ok (Some x.0, x.1)) else Ok (None, h)

abbrev pub opening_from : Here → Option ℕ → Result (Closing × Here) Stop
opening_from h None = Err (EndOfFile, h)
opening_from h (Some b) =
    if b == left_brace then Ok (Brace, after_byte h)
    else if b == 40 then Ok (Parenthesis, after_byte h)
    else Err (ExpectedOpen, h)

abbrev pub next_field_from : Closing → Here → Option ℕ → Result (Option Field × Here) Stop
next_field_from close h None = Err (EndOfFile, h)
next_field_from close h (Some b) =
    if b == closing_sign close then Ok (None, after_byte h)
    else if b == 44 then (let w = after_white (after_byte h) in field_or_close close w (first w.rest))
    else Err (ExpectedCommaOrClose, h)

abbrev pub enclosed_by : ℕ → List ℕ → Here → Option ℕ → Result (List ℕ × Here) Stop
enclosed_by close text end None = Err (EndOfFile, end)
enclosed_by close text end (Some b) = if b == close then Ok (text, end) else Err (UnbalancedBraces, end)

-- whether another part of the value follows
abbrev pub is_hash : Option ℕ → Bool
is_hash None = false
is_hash (Some b) = b == 35

abbrev pub is_joined : Here → Bool
is_joined h = is_hash (first h.rest)
