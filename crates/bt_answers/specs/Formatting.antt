-- Lays out the entries of a database.
use Rattle.std.specs.Prelude.{ℕ, nat_le, nat_lt, ◌==◌, ◌&&◌, ◌||◌, not, Bool, true, if◌then◌else◌, List, [], ◌∷◌, ◌++◌, length, codes, bytes_eq, Option, Some, None}
use Rattle.std.specs.List.{fold}
use Rattle.serde_json.specs.Data.{Data, null, array}
use Rattle.serde_json.specs.View.{items_of}
use Rattle.bt_bib.specs.BibText.{pieces_of}
use Rattle.bt_bib.specs.declared.placed_pieces.PlacedPiece.{PlacedPiece}
use Rattle.bt_positions.specs.Lines.{begins_with_feed}
use Rattle.bt_positions.specs.Positions.{offset_of}
use Rattle.bt_positions.specs.declared.indexed_text.Position.{Position}
use Rattle.bt_positions.specs.declared.counting.Counting.{Counting}
use Rattle.bt_documents.specs.declared.document.Document.{Document}
use Rattle.bt_mentions.specs.declared.layout.Gap.{Gap}
use Rattle.bt_mentions.specs.Databases.{part}
use Rattle.bt_mentions.specs.Gaps.{gaps}
use Rattle.bt_answers.specs.declared.formatting.Scope.{Scope}
use Rattle.bt_answers.specs.declared.formatting.LineEnd.{LineEnd}
use Rattle.bt_answers.specs.declared.formatting.LineEnd.TheVariants.{Feed, ReturnFeed}
use Rattle.bt_places.specs.Parameters.{position_at}
use Rattle.bt_places.specs.Entries.{is_database}
use Rattle.bt_edited.specs.declared.edits.Edit.{Edit}
use Rattle.bt_edited.specs.declared.changes.Change.TheVariants.{Nothing}
use Rattle.bt_edited.specs.Edits.{edit_of, text_after_edits}
use Rattle.bt_edited.specs.Becomes.{is_made}
use Rattle.bt_answers.specs.EditValues.{edit_values}

-- how the lines of a text end: as the first one with a line feed does
abbrev pub line_end : List ℕ → LineEnd
line_end [] = Feed
line_end (b ∷ t) = if b == 10 then Feed else (if b == 13 && begins_with_feed t then ReturnFeed else line_end t)

-- what a gap is to be: a line's end, and two blanks unless the closing sign follows
abbrev pub layout : LineEnd → Bool → List ℕ
layout Feed is_last = if is_last then codes "\n" else codes "\n  "
layout ReturnFeed is_last = if is_last then codes "\r\n" else codes "\r\n  "

-- edits with the one of a gap, unless it is laid out already
abbrev pub with_gap : Counting → LineEnd → List ℕ → List Edit → Gap → List Edit
with_gap c end words es g =
    if bytes_eq (part g.from g.to words) (layout end g.is_last) then es
    else es ++ edit_of c words g.from g.to (layout end g.is_last) ∷ []

-- adds the edits of a piece
abbrev pub with_gaps : Counting → LineEnd → List ℕ → List Edit → PlacedPiece → List Edit
with_gaps c end words es p = fold (with_gap c end words) es (gaps words p)

-- Whether a part of a text touches a piece that goes from one offset to another: it begins in the piece, or the piece begins
-- in it.
abbrev pub is_touched : Scope → ℕ → ℕ → Bool
is_touched s start end = if nat_le start s.from then nat_le s.from end else nat_lt start s.to

-- whether a piece is to be laid out: each is, unless a part of the text is named
abbrev pub is_asked : Option Scope → PlacedPiece → Bool
is_asked None p = true
is_asked (Some s) p = is_touched s p.start.place p.end.place

-- adds the edits of a piece, if it is to be laid out
abbrev pub with_asked_gaps : Counting → LineEnd → List ℕ → Option Scope → List Edit → PlacedPiece → List Edit
with_asked_gaps c end words scope es p = if is_asked scope p then with_gaps c end words es p else es

-- the part of a document between two positions
abbrev pub scope_between : Document → Option Position → Option Position → Option Scope
scope_between d (Some from) (Some to) =
    Some (record { from = offset_of d.counting from d.text; to = offset_of d.counting to d.text })
scope_between d (Some from) None = None
scope_between d None to = None

-- the part of a document that a message names
abbrev pub scope_of : Document → Data → Option Scope
scope_of d m =
    scope_between d (position_at (codes "/params/range/start/line") (codes "/params/range/start/character") m)
    (position_at (codes "/params/range/end/line") (codes "/params/range/end/character") m)

-- the edits that lay out a document, or the items that a message's range touches
abbrev pub layout_edits : Document → Data → List Edit
layout_edits d m =
    fold (with_asked_gaps d.counting (line_end d.text) d.text (scope_of d m)) [] (pieces_of d.text)

-- edits as a value, if a document with these pieces has the same after the edits
abbrev pub if_kept : Document → List PlacedPiece → List Edit → Data
if_kept d ps es =
    if is_made Nothing ps (text_after_edits d.counting es d.text) then array (items_of (edit_values es)) else null

-- The edits, if the document is a database of at most 1 GiB, and has the same items after them.
abbrev pub format_edits : Document → Data → Data
format_edits d m =
    if not (is_database d.name) || nat_lt 1073741824 (length d.text) then null
    else if_kept d (pieces_of d.text) (layout_edits d m)
