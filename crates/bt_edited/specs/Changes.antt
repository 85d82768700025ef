-- What changes make of items.
use Rattle.std.specs.Prelude.{ℕ, Bool, if◌then◌else◌, List, [], ◌∷◌, ◌++◌, length, take, drop, map, option_map, option_and_then, codes, Option, Some, None}
use Rattle.std.specs.List.{fold, prefix_len}
use Rattle.bt_text.specs.ByteTests.{is_white}
use Rattle.bt_text.specs.CaseFolding.{is_same_folded}
use Rattle.bt_text.specs.White.{trimmed_end}
use Rattle.bt_bib.specs.declared.item.Part.{Part}
use Rattle.bt_bib.specs.declared.item.Part.TheVariants.{Text, Macro}
use Rattle.bt_bib.specs.declared.item.Field.{Field}
use Rattle.bt_bib.specs.declared.item.Content.{Content}
use Rattle.bt_bib.specs.declared.item.Content.TheVariants.{Entry, Define, Preamble}
use Rattle.bt_bib.specs.declared.item.Item.{Item}
use Rattle.bt_bib.specs.declared.item.Piece.{Piece}
use Rattle.bt_bib.specs.declared.item.Piece.TheVariants as pieces
use Rattle.bt_edited.specs.declared.changes.Change.{Change}
use Rattle.bt_edited.specs.declared.changes.Change.TheVariants as changes

-- a name, or the new one in place of the old one; names are compared without case
abbrev pub name_after : List ℕ → List ℕ → List ℕ → List ℕ
name_after old new name = if is_same_folded name old then new else name

-- a key after a change
abbrev pub key_after : Change → List ℕ → List ℕ
key_after changes.Nothing key = key
key_after (changes.Key old new) key = name_after old new key
key_after (changes.Macro old new) key = key

-- a macro's name after a change
abbrev pub macro_after : Change → List ℕ → List ℕ
macro_after changes.Nothing name = name
macro_after (changes.Key old new) name = name
macro_after (changes.Macro old new) name = name_after old new name

-- A text that is the old key, apart from case and white space around it, with the new key in its place; none if it isn't.
abbrev pub rekeyed_text : List ℕ → List ℕ → List ℕ → Option (List ℕ)
rekeyed_text old new text =
    let white = prefix_len is_white text in
    let rest = drop white text in
    let key = trimmed_end rest in
    if is_same_folded key old then Some (take white text ++ new ++ drop (length key) rest) else None

-- a text with the next part of its value; none if that is a macro
abbrev pub with_text : Option (List ℕ) → Part → Option (List ℕ)
with_text None p = None
with_text (Some before) (Text text) = Some (before ++ text)
with_text (Some before) (Macro name line) = None

-- the texts of a value, joined; none if it has a macro
abbrev pub joined_texts : List Part → Option (List ℕ)
joined_texts ps = fold with_text (Some []) ps

-- the same of a value, by its joined texts
abbrev pub rekeyed_value : List ℕ → List ℕ → List Part → Option (List ℕ)
rekeyed_value old new ps = option_and_then (rekeyed_text old new) (joined_texts ps)

-- a value that becomes one text, if there is one
abbrev pub text_or : Option (List ℕ) → List Part → List Part
text_or None ps = ps
text_or (Some text) ps = Text text ∷ []

-- the value of a cross-reference after a change of a key
abbrev pub crossref_after : Change → List Part → List Part
crossref_after changes.Nothing ps = ps
crossref_after (changes.Key old new) ps = text_or (rekeyed_value old new ps) ps
crossref_after (changes.Macro old new) ps = ps

abbrev pub part_after : Change → Part → Part
part_after c (Text text) = Text text
part_after c (Macro name line) = Macro (macro_after c name) line

abbrev pub value_after : Change → List Part → List Part
value_after c ps = map (part_after c) ps

abbrev pub is_crossref : List ℕ → Bool
is_crossref name = is_same_folded name (codes "crossref")

-- a field after a change; its name stays
abbrev pub field_after : Change → Field → Field
field_after c f =
    record {
      name = f.name;
      line = f.line;
      value = value_after c (if is_crossref f.name then crossref_after c f.value else f.value);
    }

abbrev pub content_after : Change → Content → Content
content_after c (Entry e) =
    Entry (record { kind = e.kind; key = option_map (key_after c) e.key; fields = map (field_after c) e.fields })
content_after c (Define d) =
    Define (record { name = option_map (macro_after c) d.name; value = option_map (value_after c) d.value })
content_after c (Preamble value) = Preamble (option_map (value_after c) value)

-- an item after a change; how it is closed and what is wrong with it stays
abbrev pub item_after : Change → Item → Item
item_after c i = record { line = i.line; content = content_after c i.content; close = i.close; fault = i.fault }

-- a piece of a database after a change: an item, or the word `@comment`
abbrev pub piece_after : Change → Piece → Piece
piece_after c pieces.Comment = pieces.Comment
piece_after c (pieces.Item i) = pieces.Item (item_after c i)
