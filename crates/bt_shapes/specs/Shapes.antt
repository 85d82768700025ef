-- Values of the protocol.
use Rattle.std.specs.Prelude.{ℕ, min, nat_lt, if◌then◌else◌, List, length, codes, Option, Some, None}
use Rattle.bt_shapes.specs.Text.{as_utf8}
use Rattle.serde_json.specs.Data.{Data, null, number, unsigned, string, array, object, member, no_members}
use Rattle.serde_json.specs.View.{items_of}
use Rattle.bt_positions.specs.Positions.{position_of}
use Rattle.bt_positions.specs.declared.counting.Counting.{Counting}
use Rattle.bt_positions.specs.declared.indexed_text.Position.{Position}

-- a position
abbrev pub position : Position → Data
position p =
    object (member (codes "character") (number (unsigned p.character))
    (member (codes "line") (number (unsigned p.line)) no_members))

-- a range
abbrev pub range : Position → Position → Data
range from to = object (member (codes "end") (position to) (member (codes "start") (position from) no_members))

-- the range of a part of a text, as far as the text has it
abbrev pub range_of : Counting → List ℕ → ℕ → ℕ → Data
range_of c words from to =
    range (position_of c (min from (length words)) words) (position_of c (min to (length words)) words)

-- bytes as a text
abbrev pub text : List ℕ → Data
text bytes = string (as_utf8 bytes)

-- a part of a file
abbrev pub location : List ℕ → Data → Data
location uri range = object (member (codes "range") range (member (codes "uri") (text uri) no_members))

-- an edit: a part of a text, and what replaces it
abbrev pub text_edit : Data → List ℕ → Data
text_edit range new = object (member (codes "newText") (text new) (member (codes "range") range no_members))

-- the edits of a file
abbrev pub file_edit : List ℕ → List Data → Data
file_edit uri edits =
    object (member (codes "edits") (array (items_of edits)) (member (codes "textDocument")
    (object (member (codes "uri") (text uri) (member (codes "version") null no_members))) no_members))

-- the edits of all files
abbrev pub workspace_edit : List Data → Data
workspace_edit changes = object (member (codes "documentChanges") (array (items_of changes)) no_members)

-- a symbol of the outline: a name with the number of its kind, the part of the text that it is, and that of its name
abbrev pub symbol : List ℕ → ℕ → Data → Data → Data
symbol name kind whole head =
    object (member (codes "kind") (number (unsigned kind)) (member (codes "name") (text name)
    (member (codes "range") whole (member (codes "selectionRange") head no_members))))

-- from one line to another, if that is a later one
abbrev pub fold_between : ℕ → ℕ → Option Data
fold_between from to =
    if nat_lt from to then Some (object (member (codes "endLine") (number (unsigned to))
    (member (codes "startLine") (number (unsigned from)) no_members))) else None
