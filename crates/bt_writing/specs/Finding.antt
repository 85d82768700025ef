-- The entry of a key, the definition of a macro, or the function of an entry's type.
use Rattle.std.specs.Prelude.{ℕ, nat_lt, not, ◌||◌, if◌then◌else◌, List, [], ◌∷◌, length, Option, Some, None}
use Rattle.std.specs.List.{list_any}
use Rattle.serde_json.specs.Data.{Data, null, boolean, number, string, array, object}
use Rattle.serde_json.specs.View.{items_of}
use Rattle.bt_text.specs.CaseFolding.{is_same_folded}
use Rattle.bt_bib.specs.BibText.{pieces_of}
use Rattle.bt_bib.specs.declared.placed_pieces.PlacedPiece.{PlacedPiece}
use Rattle.bt_positions.specs.declared.counting.Counting.{Counting}
use Rattle.bt_positions.specs.declared.indexed_text.Position.{Position}
use Rattle.bt_documents.specs.declared.document.Document.{Document}
use Rattle.bt_positions.specs.Positions.{offset_of}
use Rattle.bt_mentions.specs.Databases.{part, is_opening}
use Rattle.bt_style_answers.specs.declared.references.Lent.TheVariants.{Function}
use Rattle.bt_places.specs.Editor.{counting_in}
use Rattle.bt_places.specs.Entries.{key_of, kind_of, item_around, is_database}
use Rattle.bt_places.specs.Hover.{word_of}
use Rattle.bt_places.specs.Shapes.{range_of, location}
use Rattle.bt_answers.specs.References.{macro_at}
use Rattle.bt_answers.specs.Lending.{with_lent}
use Rattle.bt_places.specs.Visiting.{with_files}

-- where the first entry of a key begins; keys are compared without case
abbrev pub place_in : List ℕ → List PlacedPiece → Option ℕ
place_in key [] = None
place_in key (p ∷ ps) = if is_same_folded (key_of p.piece) key then Some p.start.place else place_in key ps

-- where the entry of a key begins in a file, if it is a database and has at most 1 GiB
abbrev pub location_in : Counting → List ℕ → List ℕ → List ℕ → Data
location_in c key uri words =
    if not (is_database uri) || nat_lt 1073741824 (length words) then null
    else elim (place_in key (pieces_of words)) [
      | None ↦ null
      | Some place ↦ location uri (range_of c words place place)
    ]

-- this value, or another if it is null
abbrev pub or_else : Data → Data → Data
or_else null other = other
or_else (boolean b) other = boolean b
or_else (number n) other = number n
or_else (string s) other = string s
or_else (array ds) other = array ds
or_else (object ms) other = object ms

-- where a key's entry begins, in the first database that has it; `units` says how each file counts
abbrev pub found_in : (List ℕ → Counting) → List ℕ → List (List ℕ × List ℕ) → Data
found_in units key [] = null
found_in units key (f ∷ fs) = or_else (location_in (units f.0) key f.0 f.1) (found_in units key fs)

-- where the entry of the key at a position of a document begins
abbrev pub found_at : List (List ℕ × List ℕ) → List Document → Counting → Document → Position → Data
found_at files docs c d at = found_in (counting_in c docs) (word_of d at) files

-- the type of an item around a place, if no brace or parenthesis opens before the place; empty otherwise
abbrev pub type_of : List ℕ → ℕ → Option PlacedPiece → List ℕ
type_of words place None = []
type_of words place (Some p) = if list_any is_opening (part p.start.place place words) then [] else kind_of p.piece

-- the entry's type at a position of a document; empty if it is no database, or if no type is there
abbrev pub type_at : Document → Position → List ℕ
type_at d at =
    let place = offset_of d.counting at d.text in
    if not (is_database d.name) then [] else type_of d.text place (item_around place (pieces_of d.text))

-- where styles among files declare the function of a type
abbrev pub type_places : List (List ℕ × List ℕ) → List Document → Counting → List ℕ → Data
type_places files docs c kind = array (items_of (with_files (with_lent (counting_in c docs) Function kind) files []))

-- where the function of a type is declared; if there is no type, where the entry of the key at a position begins
abbrev pub typed_or_found : List (List ℕ × List ℕ) → List Document → Counting → Document → Position → List ℕ → Data
typed_or_found files docs c d at [] = found_at files docs c d at
typed_or_found files docs c d at (b ∷ kind) = type_places files docs c (b ∷ kind)

-- Where the macro or the entry's type at a position of a document is defined; if there is none, where the entry of the key
-- there begins.
abbrev pub definition_at : List (List ℕ × List ℕ) → List Document → Counting → Document → Position → Data
definition_at files docs c d at =
    elim (macro_at files docs c d at) [ None ↦ typed_or_found files docs c d at (type_at d at) | Some v ↦ v ]
