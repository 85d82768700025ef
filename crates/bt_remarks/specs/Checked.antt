-- The findings that are held.
use Rattle.std.specs.Prelude.{ℕ, Bool, ◌&&◌, List, [], Option, Some, None, find}
use Rattle.std.specs.Str.{bytes_eq}
use Rattle.bt_remarks.specs.declared.checked.Checked.{Checked}
use Rattle.bt_remarks.specs.declared.finding.Finding.{Finding}

-- whether a check is of this text of a document
unfoldable pub is_of : List ℕ → List ℕ → Checked → Bool
is_of name words c = bytes_eq c.name name && bytes_eq c.text words

-- the first check that is held for this text of a document
abbrev pub checked_as : List ℕ → List ℕ → List Checked → Option Checked
checked_as name words held = find (is_of name words) held

abbrev pub findings_if_any : Option Checked → List Finding
findings_if_any None = []
findings_if_any (Some c) = c.findings

-- its findings; none if the text wasn't checked
abbrev pub found_for : List ℕ → List ℕ → List Checked → List Finding
found_for name words held = findings_if_any (checked_as name words held)
