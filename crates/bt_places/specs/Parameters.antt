-- Parameters of messages.
use Rattle.std.specs.Prelude.{ℕ, ℤ, pos, Bool, true, false, not, ◌&&◌, if◌then◌else◌, List, codes, bytes_eq, find, Option, Some, None, option_and_then, unwrap_or}
use Rattle.serde_json.specs.Data.{Data, Items, no_items, item}
use Rattle.serde_json.specs.Find.{pointer, as_str, as_array, as_number, as_u64, as_i64, as_bool}
use Rattle.bt_positions.specs.declared.indexed_text.Position.{Position}
use Rattle.bt_documents.specs.declared.document.Document.{Document}

-- the text at a pointer
abbrev pub text_at : List ℕ → Data → Option (List ℕ)
text_at path m = option_and_then as_str (pointer path m)

-- whether it is this word
abbrev pub is_word : List ℕ → Option (List ℕ) → Bool
is_word word None = false
is_word word (Some own) = bytes_eq own word

-- whether a list has a word
abbrev pub has_word : List ℕ → Items → Bool
has_word word no_items = false
has_word word (item d ds) = if is_word word (as_str d) then true else has_word word ds

-- whether there is a list that has a word
abbrev pub has_word_in : List ℕ → Option Items → Bool
has_word_in word None = false
has_word_in word (Some ds) = has_word word ds

-- whether there is a list at a pointer that has a word
abbrev pub has_word_at : List ℕ → List ℕ → Data → Bool
has_word_at path word m = has_word_in word (option_and_then as_array (pointer path m))

-- whether the editor's positions can count bytes of UTF-8
abbrev pub offers_bytes : Data → Bool
offers_bytes m = has_word_at (codes "/params/capabilities/general/positionEncodings") (codes "utf-8") m

-- whether the editor takes hovers as plain text alone
abbrev pub takes_plain : Data → Bool
takes_plain m =
    let path = codes "/params/capabilities/textDocument/hover/contentFormat" in
    has_word_at path (codes "plaintext") m && not (has_word_at path (codes "markdown") m)

-- the number at a pointer
abbrev pub number_at : List ℕ → Data → Option ℕ
number_at path m = option_and_then (λ d. option_and_then as_u64 (as_number d)) (pointer path m)

-- the integer at a pointer, or 0
abbrev pub version_at : List ℕ → Data → ℤ
version_at path m = unwrap_or (option_and_then (λ d. option_and_then as_i64 (as_number d)) (pointer path m)) (pos 0)

-- the boolean at a pointer
abbrev pub flag_at : List ℕ → Data → Option Bool
flag_at path m = option_and_then as_bool (pointer path m)

-- whether declarations are wanted, too; they are unless the message says no
abbrev pub wants_declarations : Data → Bool
wants_declarations m = unwrap_or (flag_at (codes "/params/context/includeDeclaration") m) true

-- the position of a line and a character, if both are there
abbrev pub position_of : Option ℕ → Option ℕ → Option Position
position_of (Some line) (Some character) = Some (record { line = line; character = character })
position_of (Some line) None = None
position_of None character = None

-- the position whose line and character stand at two pointers
abbrev pub position_at : List ℕ → List ℕ → Data → Option Position
position_at line character m = position_of (number_at line m) (number_at character m)

-- the first document of a name
abbrev pub document_named : List ℕ → List Document → Option Document
document_named name docs = find (λ (d : Document). bytes_eq d.name name) docs

-- the open document that a message names
abbrev pub document_of : List Document → Data → Option Document
document_of docs m =
    option_and_then (λ uri. document_named uri docs) (text_at (codes "/params/textDocument/uri") m)

-- the cursor's position, if a message has it
abbrev pub cursor_of : Data → Option Position
cursor_of m = position_at (codes "/params/position/line") (codes "/params/position/character") m

-- a document and a position, if both are there
abbrev pub both : Option Document → Option Position → Option (Document × Position)
both (Some d) (Some at) = Some (d, at)
both (Some d) None = None
both None at = None

-- the open document that a message names, and the cursor's position in it
abbrev pub place_of : List Document → Data → Option (Document × Position)
place_of docs m = both (document_of docs m) (cursor_of m)
