-- What an entry prints, for the key under the cursor.
use Rattle.std.specs.Prelude.{ℕ, suc, ◌+◌, ◌-◌, Bool, if◌then◌else◌, List, [], ◌∷◌, take, drop, take_while, length}
use Rattle.serde_json.specs.Data.{Data, null}
use Rattle.bt_text.specs.ByteTests.{is_white}
use Rattle.bt_positions.specs.declared.indexed_text.Position.{Position}
use Rattle.bt_positions.specs.Positions.{offset_of}
use Rattle.bt_documents.specs.declared.document.Document.{Document}
use Rattle.bt_bib.specs.BibText.{pieces_of}
use Rattle.bt_mentions.specs.KeyBytes.{is_key_byte}
use Rattle.bt_places.specs.Entries.{key_in, is_database}
use Rattle.bt_places.specs.Shapes.{hover}

-- how many key bytes a text begins with
abbrev pub key_len : List ℕ → ℕ
key_len [] = 0
key_len (b ∷ t) = if is_key_byte b then suc (key_len t) else 0

-- how many key bytes a text ends with, if so many precede it
abbrev pub keys_at_end : ℕ → List ℕ → ℕ
keys_at_end count [] = count
keys_at_end count (b ∷ t) = keys_at_end (if is_key_byte b then suc count else 0) t

-- the word of key bytes around a place
abbrev pub word_at : ℕ → List ℕ → List ℕ
word_at place text =
    let before = keys_at_end 0 (take place text) in
    take (before + key_len (drop place text)) (drop (place - before) text)

-- the word of key bytes at a position of a document
abbrev pub word_of : Document → Position → List ℕ
word_of d at = word_at (offset_of d.counting at d.text) d.text

-- the key at a position of a document: in a database that of the entry around it, elsewhere the word around it
abbrev pub key_at : Document → Position → List ℕ
key_at d at =
    if is_database d.name then key_in (offset_of d.counting at d.text) (pieces_of d.text)
    else word_of d at

-- a text without the white space at its beginning
abbrev pub trimmed_start : List ℕ → List ℕ
trimmed_start t = drop (length (take_while is_white t)) t

-- what a hover shows of lines; null if there are none
abbrev pub hover_lines : Bool → List ℕ → Data
hover_lines plain [] = null
hover_lines plain (b ∷ t) = hover plain (b ∷ t)

-- what a hover shows for a key, from what each key's entry prints, as plain text if the editor takes nothing else
abbrev pub hover_of : (List ℕ → List ℕ) → Bool → List ℕ → Data
hover_of entry_text plain key = hover_lines plain (trimmed_start (entry_text key))

-- what a hover shows at a position of a document
abbrev pub hover_at : (List ℕ → List ℕ) → Bool → Document → Position → Data
hover_at entry_text plain d at = hover_of entry_text plain (key_at d at)
