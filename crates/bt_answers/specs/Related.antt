-- Where the entry of a diagnostic begins.
use Rattle.std.specs.Prelude.{ℕ, min, nat_le, nat_lt, Bool, false, ◌||◌, not, if◌then◌else◌, List, [], ◌∷◌, map, length, codes, Option, Some, None, unwrap_or}
use Rattle.serde_json.specs.Data.{Data, number, unsigned, string, array, item, no_items, object, member, no_members}
use Rattle.bt_bib.specs.BibText.{pieces_of}
use Rattle.bt_bib.specs.declared.placed_pieces.PlacedPiece.{PlacedPiece}
use Rattle.bt_positions.specs.Positions.{position_of, offset_of}
use Rattle.bt_documents.specs.declared.document.Document.{Document}
use Rattle.bt_diagnostics.specs.declared.diagnostic.Diagnostic.{Diagnostic}
use Rattle.bt_mentions.specs.declared.mention.Mention.{Mention}
use Rattle.bt_mentions.specs.Databases.{with_piece}
use Rattle.bt_places.specs.Entries.{is_database, item_around}
use Rattle.bt_places.specs.Parameters.{flag_at}
use Rattle.bt_places.specs.Shapes.{text, range, range_of, location, diagnostic}

-- whether an editor shows places related to a diagnostic, as it says in `initialize`
abbrev pub shows_related : Data → Bool
shows_related m =
    unwrap_or (flag_at (codes "/params/capabilities/textDocument/publishDiagnostics/relatedInformation") m) false

-- the place where an entry begins
abbrev pub beginning : Data → Data
beginning place =
    object (member (codes "location") place (member (codes "message") (string (codes "the entry begins here")) no_members))

-- a diagnostic with the place where its entry begins
abbrev pub diagnostic_from : Diagnostic → Data → Data
diagnostic_from d place =
    object (member (codes "message") (text d.words) (member (codes "range") (range d.from d.to)
    (member (codes "relatedInformation") (array (item (beginning place) no_items))
    (member (codes "severity") (number (unsigned d.severity)) (member (codes "source") (string (codes "bibtex")) no_members)))))

-- where the first of some mentions ends; this place if there are none
abbrev pub end_of_first : ℕ → List Mention → ℕ
end_of_first place [] = place
end_of_first place (m ∷ ms) = m.to

-- a document's entry from its sign to its key
abbrev pub place_of_entry : Document → PlacedPiece → Data
place_of_entry d p = location d.name (range_of d.counting d.text p.start.place (end_of_first p.start.place (with_piece d.text [] p)))

-- whether a piece begins on a line before that of a diagnostic
abbrev pub begins_before : Document → Diagnostic → PlacedPiece → Bool
begins_before d f p = nat_lt (position_of d.counting (min p.start.place (length d.text)) d.text).line f.from.line

-- a diagnostic in a piece of a document: if the piece begins on an earlier line, with the place where it does
abbrev pub related_to : Document → Diagnostic → PlacedPiece → Data
related_to d f p = if begins_before d f p then diagnostic_from f (place_of_entry d p) else diagnostic f

-- the same, if there is a piece
abbrev pub related_in : Document → Diagnostic → Option PlacedPiece → Data
related_in d f None = diagnostic f
related_in d f (Some p) = related_to d f p

-- the first piece, unless it begins after a place
abbrev pub first_around : ℕ → List PlacedPiece → Option PlacedPiece
first_around place [] = None
first_around place (p ∷ ps) = if nat_le p.start.place place then Some p else None

-- a diagnostic in a document that consists of these pieces
abbrev pub related_value : Document → List PlacedPiece → Diagnostic → Data
related_value d pieces f = related_in d f (item_around (offset_of d.counting f.from d.text) pieces)

-- diagnostics of a document, each in a database with the place where its entry begins if the editor shows such places
abbrev pub with_beginnings : Bool → Document → List Diagnostic → List Data
with_beginnings shows d found =
    if not shows || not (is_database d.name) || nat_lt 1073741824 (length d.text) then map diagnostic found
    else map (related_value d (pieces_of d.text)) found

-- the same, without reading the document if there are none
abbrev pub diagnostics_in : Bool → Document → List Diagnostic → List Data
diagnostics_in shows d [] = []
diagnostics_in shows d (f ∷ fs) = with_beginnings shows d (f ∷ fs)
