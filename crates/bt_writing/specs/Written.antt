-- The part of a document that a completion replaces.
use Rattle.std.specs.Prelude.{ℕ, suc, ◌-◌, ◌==◌, ◌&&◌, not, Bool, false, if◌then◌else◌, List, [], ◌∷◌, ◌++◌, codes, drop}
use Rattle.std.specs.List.{list_any}
use Rattle.serde_json.specs.Data.{Data, number, unsigned, string, object, member, no_members}
use Rattle.bt_shapes.specs.Text.{as_utf8}
use Rattle.bt_text.specs.NameBytes.{is_name_byte}
use Rattle.bt_positions.specs.Positions.{position_of}
use Rattle.bt_documents.specs.declared.document.Document.{Document}
use Rattle.bt_mentions.specs.declared.inside.Inside.{Inside}
use Rattle.bt_mentions.specs.declared.inside.Inside.TheVariants.{Name, Value, Braced, Quoted}
use Rattle.bt_mentions.specs.Databases.{is_opening, inside_item}
use Rattle.bt_shapes.specs.Shapes.{text, range, text_edit}
use Rattle.bt_writing.specs.declared.written.Written.{Written}
use Rattle.bt_places.specs.Hover.{keys_at_end}

-- how many bytes of names a text ends with, if so many precede it
abbrev pub names_at_end : ℕ → List ℕ → ℕ
names_at_end count [] = count
names_at_end count (b ∷ t) = names_at_end (if is_name_byte b then suc count else 0) t

-- how many bytes of a name a text ends with, which ends so in an item: of a key in braces and quotes, of a macro elsewhere
abbrev pub written_in : List ℕ → Inside → ℕ
written_in front (Name found) = keys_at_end 0 front
written_in front (Value is_crossref) = names_at_end 0 front
written_in front (Braced is_crossref depth) = keys_at_end 0 front
written_in front (Quoted is_crossref depth) = keys_at_end 0 front

-- whether a text begins with an `@`
abbrev pub begins_item : List ℕ → Bool
begins_item [] = false
begins_item (b ∷ t) = b == 64

-- whether an item's first bytes are an `@` and a part of its type
abbrev pub is_head : List ℕ → Bool
is_head front = begins_item front && not (list_any is_opening front)

-- how many bytes of a name an item's first bytes end with; the `@` is none of them
abbrev pub written_len : List ℕ → ℕ
written_len front = if is_head front then names_at_end 0 (drop 1 front) else written_in front (inside_item front)

-- so many bytes before a place of a document
abbrev pub written_at : Document → ℕ → ℕ → Written
written_at d place count =
    record { from = position_of d.counting (place - count) d.text; to = position_of d.counting place d.text }

-- the edit that writes a name there
abbrev pub edit_of : Written → List ℕ → Data
edit_of w name = text_edit (range w.from w.to) name

-- what a completion offers for a name, with the protocol's number for its kind; editors sort by the digit before the name
abbrev pub ordered_item : Written → ℕ → List ℕ → Bool → Data
ordered_item w kind name is_late =
    object (member (codes "kind") (number (unsigned kind)) (member (codes "label") (text name)
    (member (codes "sortText") (string ((if is_late then codes "1" else codes "0") ++ as_utf8 name))
    (member (codes "textEdit") (edit_of w name) no_members))))
