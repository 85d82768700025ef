-- Completes types, fields, keys and macros in a database, and keys in citations.
use Rattle.std.specs.Prelude.{ℕ, ◌==◌, ◌&&◌, nat_lt, Bool, if◌then◌else◌, List, [], ◌∷◌, ◌++◌, length, Option, Some, None}
use Rattle.std.specs.List.{list_any}
use Rattle.serde_json.specs.Data.{Data, null, array}
use Rattle.serde_json.specs.View.{items_of}
use Rattle.bt_bib.specs.BibText.{pieces_of}
use Rattle.bt_bib.specs.declared.item.Field.{Field}
use Rattle.bt_bib.specs.declared.placed_pieces.PlacedPiece.{PlacedPiece}
use Rattle.bt_positions.specs.Positions.{offset_of}
use Rattle.bt_positions.specs.declared.indexed_text.Position.{Position}
use Rattle.bt_documents.specs.declared.document.Document.{Document}
use Rattle.bt_mentions.specs.declared.inside.Inside.{Inside}
use Rattle.bt_mentions.specs.declared.inside.Inside.TheVariants.{Name, Value, Braced, Quoted}
use Rattle.bt_mentions.specs.declared.mention.Mention.{Mention}
use Rattle.bt_mentions.specs.Databases.{part, inside_item}
use Rattle.bt_writing.specs.declared.completing.Offer.{Offer}
use Rattle.bt_writing.specs.declared.completing.Offer.TheVariants.{Nothing, Types, Fields, Keys, Macros}
use Rattle.bt_writing.specs.Citing.{candidates_in, citation_at}
use Rattle.bt_places.specs.Entries.{fields_of, item_around, is_database}
use Rattle.bt_writing.specs.Fields.{field_candidates}
use Rattle.bt_places.specs.Picking.{with_picked}
use Rattle.bt_answers.specs.References.{is_definition}
use Rattle.bt_writing.specs.StyleMacros.{macro_candidate, with_style_macros}
use Rattle.bt_writing.specs.Types.{type_candidates}
use Rattle.bt_places.specs.Visiting.{with_files}
use Rattle.bt_writing.specs.declared.written.Written.{Written}
use Rattle.bt_writing.specs.Written.{is_head, written_len, written_at}

-- whether a text has a comma
abbrev pub has_comma : List ℕ → Bool
has_comma text = list_any (λ b. b == 44) text

-- what is offered in braces or quotes, and in this many more braces: keys in a `crossref` field
abbrev pub enclosed_offer : Bool → ℕ → Offer
enclosed_offer is_crossref depth = if is_crossref && (depth == 0) then Keys else Nothing

-- what is offered at a place of an item, and whether a comma precedes it
abbrev pub offer_in : Bool → Inside → Offer
offer_in comma (Name found) = if comma then Fields else Nothing
offer_in comma (Value is_crossref) = if is_crossref then Keys else Macros
offer_in comma (Braced is_crossref depth) = enclosed_offer is_crossref depth
offer_in comma (Quoted is_crossref depth) = enclosed_offer is_crossref depth

-- what is offered where an item's first bytes end, after its type; fields come after the comma that ends the key
abbrev pub offer_inside : List ℕ → Offer
offer_inside front = offer_in (has_comma front) (inside_item front)

-- what is offered where an item's first bytes end
abbrev pub offer_at : List ℕ → Offer
offer_at front = if is_head front then Types else offer_inside front

-- where an item begins; the place itself if there is none
abbrev pub start_or : ℕ → Option PlacedPiece → ℕ
start_or place None = place
start_or place (Some p) = p.start.place

-- the fields of an item, if there is one
abbrev pub present_in : Option PlacedPiece → List Field
present_in None = []
present_in (Some p) = fields_of p.piece

-- a list with what is offered for a mention, if a macro is defined there
abbrev pub with_macro : Written → List ℕ → List Data → Mention → List Data
with_macro w words list m =
    if is_definition m.role then list ++ macro_candidate w (part m.from m.to words) ∷ [] else list

-- a list with what is offered for the macros of a file
abbrev pub with_macros : Written → List Data → List ℕ → List ℕ → List Data
with_macros w list uri words = with_picked (λ u. with_macro w) list uri words

-- the completions for macros: those of the databases, and those that the style defines
abbrev pub macro_candidates : Written → List (List ℕ × List ℕ) → List Data
macro_candidates w files = with_style_macros w files (with_files (with_macros w) files [])

-- what is offered from files to an entry that has these fields
abbrev pub offers : List (List ℕ × List ℕ) → List Field → Offer → Written → Data
offers files present Nothing w = null
offers files present Types w = array (items_of (type_candidates w files))
offers files present Fields w = array (items_of (field_candidates files present w))
offers files present Keys w = array (items_of (candidates_in w files))
offers files present Macros w = array (items_of (macro_candidates w files))

-- what is offered at a place of a document, in an item if there is one
abbrev pub offers_around : List (List ℕ × List ℕ) → Document → Option PlacedPiece → ℕ → Data
offers_around files d around place =
    let front = part (start_or place around) place d.text in
    offers files (present_in around) (offer_at front) (written_at d place (written_len front))

-- what is offered at a position of a database
abbrev pub database_at : List (List ℕ × List ℕ) → Document → Position → Data
database_at files d at =
    let place = offset_of d.counting at d.text in
    offers_around files d (item_around place (pieces_of d.text)) place

-- What is offered at a position of a document: in a database types, fields, the keys in a `crossref` field, and macros in other
-- values; elsewhere the keys in a citation. Null in a document of more than 1 GiB.
abbrev pub completion_at : List (List ℕ × List ℕ) → Document → Position → Data
completion_at files d at =
    if nat_lt 1073741824 (length d.text) then null
    else (if is_database d.name then database_at files d at else citation_at files d at)
