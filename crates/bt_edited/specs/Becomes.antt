-- Whether a change makes items of others, apart from places and lines.
use Rattle.std.specs.Prelude.{ℕ, ◌&&◌, Bool, true, false, if◌then◌else◌, List, [], ◌∷◌, bytes_eq, Option, Some, None}
use Rattle.std.specs.Option.{option_eq}
use Rattle.std.specs.Cmp.Lexicographic.{pointwise}
use Rattle.bt_bib.specs.contracts.fault.ItemFaultPartialEq.TheImpl as fault_comparison
use Rattle.bt_bib.specs.contracts.item.ClosingPartialEq.TheImpl as closing_comparison
use Rattle.bt_bib.specs.BibText.{pieces_of}
use Rattle.bt_bib.specs.declared.fault.ItemFault.{ItemFault}
use Rattle.bt_bib.specs.declared.item.Closing.{Closing}
use Rattle.bt_bib.specs.declared.item.Part.{Part}
use Rattle.bt_bib.specs.declared.item.Part.TheVariants.{Text, Macro}
use Rattle.bt_bib.specs.declared.item.Field.{Field}
use Rattle.bt_bib.specs.declared.item.Entry as entries
use Rattle.bt_bib.specs.declared.item.Definition as definitions
use Rattle.bt_bib.specs.declared.item.Content.{Content}
use Rattle.bt_bib.specs.declared.item.Content.TheVariants.{Entry, Define, Preamble}
use Rattle.bt_bib.specs.declared.item.Item.{Item}
use Rattle.bt_bib.specs.declared.item.Piece.{Piece}
use Rattle.bt_bib.specs.declared.item.Piece.TheVariants as pieces
use Rattle.bt_bib.specs.declared.placed_pieces.PlacedPiece.{PlacedPiece}
use Rattle.bt_edited.specs.declared.changes.Change.{Change}
use Rattle.bt_edited.specs.declared.changes.Change.TheVariants as changes
use Rattle.bt_edited.specs.Changes.{key_after, macro_after, rekeyed_value, is_crossref}

abbrev pub same_text : Option (List ℕ) → Option (List ℕ) → Bool
same_text = option_eq bytes_eq

abbrev pub same_fault : Option ItemFault → Option ItemFault → Bool
same_fault = option_eq ((fault_comparison.ghosts).eq)

abbrev pub same_closing : Option Closing → Option Closing → Bool
same_closing = option_eq ((closing_comparison.ghosts).eq)

abbrev pub key_becomes : Change → Option (List ℕ) → Option (List ℕ) → Bool
key_becomes c a b = option_eq (λ key other. bytes_eq (key_after c key) other) a b

abbrev pub macro_becomes : Change → Option (List ℕ) → Option (List ℕ) → Bool
macro_becomes c a b = option_eq (λ name other. bytes_eq (macro_after c name) other) a b

abbrev pub part_becomes : Change → Part → Part → Bool
part_becomes c (Text text) (Text other) = bytes_eq text other
part_becomes c (Macro name line) (Macro other its) = bytes_eq (macro_after c name) other
part_becomes c p q = false

abbrev pub value_becomes : Change → List Part → List Part → Bool
value_becomes c ps qs = pointwise (part_becomes c) ps qs

abbrev pub any_value_becomes : Change → Option (List Part) → Option (List Part) → Bool
any_value_becomes c a b = option_eq (value_becomes c) a b

-- whether parts are this text alone
abbrev pub is_text : List ℕ → List Part → Bool
is_text text (Text other ∷ []) = bytes_eq text other
is_text text ps = false

-- whether a text, if there is one, or else a change makes parts of others
abbrev pub text_or_value_becomes : Change → Option (List ℕ) → List Part → List Part → Bool
text_or_value_becomes c None ps qs = value_becomes c ps qs
text_or_value_becomes c (Some text) ps qs = is_text text qs

-- the same of a cross-reference, which a change of its key makes one text
abbrev pub reference_becomes : Change → List Part → List Part → Bool
reference_becomes changes.Nothing ps qs = value_becomes changes.Nothing ps qs
reference_becomes (changes.Key old new) ps qs =
    text_or_value_becomes (changes.Key old new) (rekeyed_value old new ps) ps qs
reference_becomes (changes.Macro old new) ps qs = value_becomes (changes.Macro old new) ps qs

abbrev pub field_becomes : Change → Field → Field → Bool
field_becomes c f g =
    bytes_eq f.name g.name
    && (if is_crossref f.name then reference_becomes c f.value g.value else value_becomes c f.value g.value)

abbrev pub entry_becomes : Change → entries.Entry → entries.Entry → Bool
entry_becomes c e f =
    same_text e.kind f.kind && key_becomes c e.key f.key && pointwise (field_becomes c) e.fields f.fields

abbrev pub definition_becomes : Change → definitions.Definition → definitions.Definition → Bool
definition_becomes c d e = macro_becomes c d.name e.name && any_value_becomes c d.value e.value

abbrev pub content_becomes : Change → Content → Content → Bool
content_becomes c (Entry e) (Entry f) = entry_becomes c e f
content_becomes c (Define d) (Define f) = definition_becomes c d f
content_becomes c (Preamble v) (Preamble w) = any_value_becomes c v w
content_becomes c d e = false

abbrev pub item_becomes : Change → Item → Item → Bool
item_becomes c i j =
    content_becomes c i.content j.content && same_closing i.close j.close && same_fault i.fault j.fault

abbrev pub piece_becomes : Change → Piece → Piece → Bool
piece_becomes c pieces.Comment pieces.Comment = true
piece_becomes c (pieces.Item i) (pieces.Item j) = item_becomes c i j
piece_becomes c p q = false

abbrev pub placed_becomes : Change → PlacedPiece → PlacedPiece → Bool
placed_becomes c p q = piece_becomes c p.piece q.piece

-- whether a change makes the pieces of a database those of another
abbrev pub pieces_become : Change → List PlacedPiece → List PlacedPiece → Bool
pieces_become c ps qs = pointwise (placed_becomes c) ps qs

-- whether a change makes pieces those of a text, if there is one
abbrev pub is_made : Change → List PlacedPiece → Option (List ℕ) → Bool
is_made c ps None = false
is_made c ps (Some text) = pieces_become c ps (pieces_of text)
