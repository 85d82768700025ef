-- The macros that the paper's style defines, in completions.
use Rattle.std.specs.Prelude.{ℕ, if◌then◌else◌, List, [], ◌∷◌, ◌++◌, codes}
use Rattle.std.specs.List.{fold}
use Rattle.serde_json.specs.Data.{Data, number, unsigned, object, member, no_members}
use Rattle.bt_style_text.specs.declared.marks.Mark.{Mark}
use Rattle.bt_style_text.specs.Parts.{part}
use Rattle.bt_style_text.specs.Marks.{marks_of}
use Rattle.bt_places.specs.Entries.{is_style}
use Rattle.bt_places.specs.Shapes.{text}
use Rattle.bt_places.specs.Visiting.{with_files}
use Rattle.bt_writing.specs.declared.written.Written.{Written}
use Rattle.bt_writing.specs.Written.{edit_of}
use Rattle.bt_writing.specs.StyleNames.{is_macro}

-- what a completion offers for a macro, and the edit that writes it
abbrev pub macro_candidate : Written → List ℕ → Data
macro_candidate w name =
    object (member (codes "kind") (number (unsigned 21)) (member (codes "label") (text name)
    (member (codes "textEdit") (edit_of w name) no_members)))

-- a list with what is offered for a macro, if a style defines it here
abbrev pub with_style_macro : Written → List ℕ → List Data → Mark → List Data
with_style_macro w words list mark =
    if is_macro mark.role then list ++ macro_candidate w (part mark.start mark.end words) ∷ [] else list

-- a list with what is offered for the macros that a style's text defines
abbrev pub with_macros_in : Written → List Data → List ℕ → List Data
with_macros_in w list words = fold (with_style_macro w words) list (marks_of words)

-- a list with what is offered for the macros of a file, if it is a style
abbrev pub with_macros_of : Written → List Data → List ℕ → List ℕ → List Data
with_macros_of w list uri words = if is_style uri then with_macros_in w list words else list

-- a list with what is offered for the macros of the styles among files
abbrev pub with_style_macros : Written → List (List ℕ × List ℕ) → List Data → List Data
with_style_macros w files list = with_files (with_macros_of w) files list
