-- What an editor can do at a place of a database.
use Rattle.std.specs.Prelude.{ℕ, suc, ◌+◌, ◌==◌, ◌&&◌, nat_lt, ◌||◌, not, min, if◌then◌else◌, List, [], ◌∷◌, ◌++◌, drop, length, codes, Option, Some, None}
use Rattle.std.specs.List.{list_any}
use Rattle.serde_json.specs.Data.{Data, null, array}
use Rattle.serde_json.specs.View.{items_of}
use Rattle.bt_text.specs.White.{trimmed_end}
use Rattle.bt_bib.specs.BibText.{pieces_of}
use Rattle.bt_bib.specs.declared.fault.ItemFault.{ItemFault}
use Rattle.bt_bib.specs.declared.fault.ItemFault.TheVariants.{EndOfFile, MissingName, BadNameEnd, ExpectedOpen, ExpectedCommaOrClose, ExpectedEquals, UnbalancedBraces, MissingPart}
use Rattle.bt_bib.specs.declared.item.Closing.{Closing}
use Rattle.bt_bib.specs.declared.item.Closing.TheVariants.{Brace, Parenthesis}
use Rattle.bt_bib.specs.declared.item.Content.{Content}
use Rattle.bt_bib.specs.declared.item.Content.TheVariants.{Entry, Define, Preamble}
use Rattle.bt_bib.specs.declared.item.Item.{Item as ReadItem}
use Rattle.bt_bib.specs.declared.item.Piece.{Piece}
use Rattle.bt_bib.specs.declared.item.Piece.TheVariants.{Comment, Item}
use Rattle.bt_bib.specs.declared.placed_pieces.PlacedPiece.{PlacedPiece}
use Rattle.bt_positions.specs.Positions.{offset_of}
use Rattle.bt_positions.specs.declared.indexed_text.Position.{Position}
use Rattle.bt_documents.specs.declared.document.Document.{Document}
use Rattle.bt_mentions.specs.declared.inside.Inside.{Inside}
use Rattle.bt_mentions.specs.declared.inside.Inside.TheVariants.{Name, Value, Braced, Quoted}
use Rattle.bt_mentions.specs.Databases.{part, inside_item}
use Rattle.bt_writing.specs.declared.actions.Missing.{Missing}
use Rattle.bt_writing.specs.declared.actions.Missing.TheVariants.{Comma, End, Brace as OfBrace, Quote as OfQuote, ValueEnd}
use Rattle.bt_writing.specs.declared.actions.Fix.{Fix}
use Rattle.bt_writing.specs.Written.{begins_item}
use Rattle.bt_places.specs.Entries.{key_of, item_around, is_database}
use Rattle.bt_writing.specs.Finding.{place_in}
use Rattle.bt_writing.specs.ItemEnds.{begins_field, is_line_end, last_word}
use Rattle.bt_places.specs.Parameters.{position_at}
use Rattle.bt_writing.specs.QuickFix.{action, edit_at}
use Rattle.bt_writing.specs.Respelling.{with_respellings_around}
use Rattle.bt_places.specs.Visiting.{is_any}

-- ---- a repeated entry

-- a piece that is an entry with this key, if the first one of the key begins before it
abbrev pub if_later : PlacedPiece → Option ℕ → Option PlacedPiece
if_later p None = None
if_later p (Some first) = if nat_lt first p.start.place then Some p else None

-- a piece with this key, if it has one and an earlier entry has it, too
abbrev pub if_repeated : List PlacedPiece → PlacedPiece → List ℕ → Option PlacedPiece
if_repeated pieces p [] = None
if_repeated pieces p (b ∷ key) = if_later p (place_in (b ∷ key) pieces)

-- the piece, if there is one that repeats an entry
abbrev pub repeated_of : List PlacedPiece → Option PlacedPiece → Option PlacedPiece
repeated_of pieces None = None
repeated_of pieces (Some p) = if_repeated pieces p (key_of p.piece)

-- the entry around a place, if an earlier one has its key
abbrev pub repeated : ℕ → List PlacedPiece → Option PlacedPiece
repeated place pieces = repeated_of pieces (item_around place pieces)

-- ---- actions

-- the action that removes a piece of a document
abbrev pub removal_at : Document → PlacedPiece → Data
removal_at d p = action (codes "Remove the repeated entry") (edit_at d p.start.place p.end.place [])

-- a list with the action that removes a piece, if there is one
abbrev pub with_removal : Document → List Data → Option PlacedPiece → List Data
with_removal d list None = list
with_removal d list (Some p) = list ++ removal_at d p ∷ []

-- ---- what is missing in an item

-- how many bytes precede the next line that begins with an `@`; all of them if there is none
abbrev pub before_entry : List ℕ → ℕ
before_entry [] = 0
before_entry (b ∷ t) = if b == 10 && begins_item t then 0 else suc (before_entry t)

-- What closes an item that is open at such a place and ends with this sign. None if more than the last brace or quote of a
-- value is missing.
abbrev pub closing_in : Inside → Closing → Option Missing
closing_in (Name found) close = Some (End close)
closing_in (Value is_crossref) close = Some (End close)
closing_in (Braced is_crossref depth) close = if depth == 0 then Some (OfBrace close) else None
closing_in (Quoted is_crossref depth) close = if depth == 0 then Some (OfQuote close) else None

-- a closing sign
abbrev pub sign : Closing → List ℕ
sign Brace = codes "}"
sign Parenthesis = codes ")"

-- and the closing brace of a value before it
abbrev pub with_brace : Closing → List ℕ
with_brace Brace = codes "}}"
with_brace Parenthesis = codes "})"

-- or the closing quote of one
abbrev pub with_quote : Closing → List ℕ
with_quote Brace = codes "\"}"
with_quote Parenthesis = codes "\")"

-- how what is missing is spelled
abbrev pub spelling : Missing → List ℕ
spelling Comma = codes ","
spelling (End close) = sign close
spelling (OfBrace close) = with_brace close
spelling (OfQuote close) = with_quote close
spelling ValueEnd = codes "\""

-- where a part of a text ends without the white space at its end
abbrev pub solid_end : List ℕ → ℕ → ℕ → ℕ
solid_end text start to = start + length (trimmed_end (part start to text))

-- this at a place, if it is known
abbrev pub fix : ℕ → Option Missing → Option Fix
fix place None = None
fix place (Some missing) = Some (record { place = place; missing = missing })

-- what closes the item between two places of a text, if it was opened
abbrev pub closing : List ℕ → ℕ → ℕ → Option Closing → Option Fix
closing text start to None = None
closing text start to (Some close) = fix (solid_end text start to) (closing_in (inside_item (part start to text)) close)

-- what is missing between the parts of an entry, given the text behind the second place: the closing sign before an item, a
-- comma before a field
abbrev pub between : List ℕ → ℕ → ℕ → List ℕ → Option Closing → Option Fix
between text start end rest close =
    if begins_item rest then closing text start end close
    else (if begins_field rest then fix (solid_end text start end) (Some Comma) else None)

-- what is missing between the parts of an item: a comma or the closing sign in an entry, otherwise the closing sign
abbrev pub separator : List ℕ → ℕ → ℕ → Content → Option Closing → Option Fix
separator text start end (Entry entry) close = between text start end (part end (length text) text) close
separator text start end (Define definition) close = closing text start end close
separator text start end (Preamble value) close = closing text start end close

-- what closes an entry before the next item, if the head of that item was read as a field's name
abbrev pub before_item : List ℕ → ℕ → ℕ → Content → Option Closing → Option Fix
before_item text start end (Entry entry) close =
    let place = last_word text start end in
    if begins_item (part place end text) then closing text start place close else None
before_item text start end (Define definition) close = None
before_item text start end (Preamble value) close = None

-- The closing quote of a value in which the closing sign of its item was read. That sign begins its line.
abbrev pub value_end : List ℕ → ℕ → ℕ → Option Closing → Option Fix
value_end text start end None = None
value_end text start end (Some Parenthesis) = None
value_end text start end (Some Brace) =
    let place = solid_end text start end in
    if list_any is_line_end (part place end text) then fix place (Some ValueEnd) else None

-- What is missing in an item between two places of a text, given its fault, which is at the second place. An item that the
-- text's end cuts off is closed before the next line that begins with an `@`.
abbrev pub missing_by : List ℕ → ℕ → ℕ → ReadItem → ItemFault → Option Fix
missing_by text start end i ExpectedCommaOrClose = separator text start end i.content i.close
missing_by text start end i EndOfFile = closing text start (start + before_entry (drop start text)) i.close
missing_by text start end i (MissingName role) = None
missing_by text start end i (BadNameEnd role byte) = before_item text start end i.content i.close
missing_by text start end i ExpectedOpen = None
missing_by text start end i ExpectedEquals = before_item text start end i.content i.close
missing_by text start end i UnbalancedBraces = value_end text start end i.close
missing_by text start end i MissingPart = None

-- the same, if there is a fault
abbrev pub missing_if : List ℕ → ℕ → ℕ → ReadItem → Option ItemFault → Option Fix
missing_if text start end i None = None
missing_if text start end i (Some fault) = missing_by text start end i fault

-- what is missing in an item
abbrev pub missing_in : List ℕ → ℕ → ℕ → ReadItem → Option Fix
missing_in text start end i = missing_if text start end i i.fault

-- the same of a piece between two places
abbrev pub placed_fix : List ℕ → ℕ → ℕ → Piece → Option Fix
placed_fix text start end Comment = None
placed_fix text start end (Item i) = missing_in text start end i

-- what is missing in the item around a place, if that is known
abbrev pub fix_of : List ℕ → Option PlacedPiece → Option Fix
fix_of text None = None
fix_of text (Some p) = placed_fix text (min p.start.place (length text)) p.end.place p.piece

-- what an action that inserts this is called
abbrev pub title_of : Missing → List ℕ
title_of Comma = codes "Insert the missing comma"
title_of (End close) = codes "Close the item"
title_of (OfBrace close) = codes "Close the item"
title_of (OfQuote close) = codes "Close the item"
title_of ValueEnd = codes "Close the value"

-- the action that inserts what is missing
abbrev pub fix_at : Document → Fix → Data
fix_at d f = action (title_of f.missing) (edit_at d f.place f.place (spelling f.missing))

-- a list with this action, if something is missing
abbrev pub with_fix : Document → List Data → Option Fix → List Data
with_fix d list None = list
with_fix d list (Some f) = list ++ fix_at d f ∷ []

-- a list as a value; null if it is empty
abbrev pub array_if_any : List Data → Data
array_if_any list = if is_any list then array (items_of list) else null

-- the actions at a place of a document that has these pieces
abbrev pub actions_in : Document → List PlacedPiece → ℕ → Data
actions_in d pieces place =
    let around = item_around place pieces in
    let removed = with_removal d [] (repeated place pieces) in
    array_if_any (with_respellings_around d pieces (with_fix d removed (fix_of d.text around)) around)

-- the actions at a position of a document, if it is a database of at most 1 GiB
abbrev pub actions_at : Document → Position → Data
actions_at d at =
    if not (is_database d.name) || nat_lt 1073741824 (length d.text) then null
    else actions_in d (pieces_of d.text) (offset_of d.counting at d.text)

-- the actions at a position, if there is one
abbrev pub actions_if_any : Document → Option Position → Data
actions_if_any d None = null
actions_if_any d (Some at) = actions_at d at

-- the actions at the start of the range that a message has
abbrev pub actions : Document → Data → Data
actions d m =
    actions_if_any d (position_at (codes "/params/range/start/line") (codes "/params/range/start/character") m)
