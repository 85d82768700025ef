-- An action in a style: it writes the likely name in place of a misspelled one.
use Rattle.std.specs.Prelude.{ℕ, ◌==◌, Bool, nat_le, nat_lt, ◌&&◌, if◌then◌else◌, List, [], ◌∷◌, ◌++◌, length, codes}
use Rattle.std.specs.List.{fold}
use Rattle.bt_shapes.specs.Text.{as_utf8}
use Rattle.serde_json.specs.Data.{Data}
use Rattle.bt_documents.specs.declared.document.Document.{Document}
use Rattle.bt_style_text.specs.declared.marks.Mark.{Mark}
use Rattle.bt_style_text.specs.Parts.{part}
use Rattle.bt_style_text.specs.Marks.{marks_of}
use Rattle.bt_style_text.specs.Hinting.{declarations, unknown, meant, likely_name}
use Rattle.bt_writing.specs.QuickFix.{action, edit_at}

-- whether a word is at a place between two others
abbrev pub touches : ℕ → ℕ → Mark → Bool
touches from to mark = nat_le mark.start to && nat_le from mark.end

-- what the action is called
abbrev pub spelling_title : List ℕ → List ℕ
spelling_title likely = codes "Write `" ++ as_utf8 likely ++ codes "`"

-- the name that is probably meant by one that nothing declares; empty if there is none
abbrev pub likely_for : Document → List Mark → Mark → List ℕ
likely_for d declared mark = likely_name d.text (meant d.text declared (part mark.start mark.end d.text))

-- the action that writes a name in place of another
abbrev pub spelling : Document → Mark → List ℕ → Data
spelling d mark likely = action (spelling_title likely) (edit_at d mark.start mark.end likely)

-- a list with the action that writes a likely name, if there is one
abbrev pub with_likely : Document → Mark → List Data → List ℕ → List Data
with_likely d mark list likely = if length likely == 0 then list else list ++ spelling d mark likely ∷ []

-- a list with the action for a name that nothing declares, if it is between two places and another one is probably meant
abbrev pub with_spelling : Document → List Mark → ℕ → ℕ → List Data → Mark → List Data
with_spelling d declared from to list mark =
    if touches from to mark then with_likely d mark list (likely_for d declared mark) else list

abbrev pub spellings_in : Document → List Mark → ℕ → ℕ → List Data
spellings_in d marks from to =
    let declared = declarations marks in fold (with_spelling d declared from to) [] (unknown d.text marks declared)

-- the actions for names between two places of a style's text of at most 1 GiB that nothing declares
abbrev pub spellings : Document → ℕ → ℕ → List Data
spellings d from to = if nat_lt 1073741824 (length d.text) then [] else spellings_in d (marks_of d.text) from to
