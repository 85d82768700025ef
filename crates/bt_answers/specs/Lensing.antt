-- What stands over lines, and where a byte of the bibliography comes from, as values of the protocol.
use Rattle.std.specs.Prelude.{ℕ, List, map, codes, Option, Some, None}
use Rattle.serde_json.specs.Data.{Data, null, string, array, object, member, no_members}
use Rattle.serde_json.specs.View.{items_of}
use Rattle.bt_positions.specs.declared.indexed_text.Position.{Position}
use Rattle.bt_remarks.specs.declared.lens.Lens.{Lens}
use Rattle.bt_remarks.specs.declared.lens.Origin.{Origin}
use Rattle.bt_remarks.specs.declared.lens.FileLine.{FileLine}
use Rattle.bt_shapes.specs.Shapes.{text, range, location}

-- the begin of a line, as a range
abbrev pub line_range : ℕ → Data
line_range line =
    let at : Position = record { line = line; character = 0 } in range at at

-- words over a range, which run no command
abbrev pub lens_object : Data → List ℕ → Data
lens_object over words =
    object (member (codes "command") (object (member (codes "command") (string (codes "")) (member (codes "title") (text words) no_members)))
    (member (codes "range") over no_members))

abbrev pub lens_value : Lens → Data
lens_value lens = lens_object (line_range lens.line) lens.words

-- what stands over lines of a document
abbrev pub lens_values : List Lens → Data
lens_values lenses = array (items_of (map lens_value lenses))

abbrev pub line_location : FileLine → Data
line_location at = location at.file (line_range at.line)

abbrev pub line_or_null : Option FileLine → Data
line_or_null None = null
line_or_null (Some at) = line_location at

abbrev pub origin_object : List ℕ → Data → Data → Data
origin_object words field word =
    object (member (codes "field") field (member (codes "word") word (member (codes "words") (text words) no_members)))

-- where a byte of the bibliography comes from; null if that isn't known
abbrev pub origin_value : Option Origin → Data
origin_value None = null
origin_value (Some origin) = origin_object origin.words (line_or_null origin.field) (line_or_null origin.word)
