-- Renames a name of a style.
use Rattle.std.specs.Prelude.{ℕ, ◌&&◌, ◌||◌, not, Bool, false, if◌then◌else◌, List, Option, Some, None, is_some, is_none, Result, Ok, Err}
use Rattle.bt_text.specs.CaseFolding.{is_same_folded}
use Rattle.bt_text.specs.NameBytes.{is_name}
use Rattle.bt_style_text.specs.declared.marks.Mark.{Mark}
use Rattle.bt_style_text.specs.declared.names.Space.{Space}
use Rattle.bt_style_text.specs.declared.names.Space.TheVariants.{Nothing, Names, Macros}
use Rattle.bt_style_text.specs.declared.renaming.RenameRefusal.{RenameRefusal}
use Rattle.bt_style_text.specs.declared.renaming.RenameRefusal.TheVariants.{NotDeclared, NoName, Taken}
use Rattle.bt_style_text.specs.Parts.{part}
use Rattle.bt_style_text.specs.Builtins.{builtin_named, is_preset}
use Rattle.bt_style_text.specs.Names.{space_of, name_at, declaration_of, marks_of_name}

-- whether a name stands for something before a style declares anything
abbrev pub is_reserved : Space → List ℕ → Bool
is_reserved Nothing name = false
is_reserved Names name = is_some (builtin_named name) || is_preset name
is_reserved Macros name = false

-- whether a name stands for something in a style
abbrev pub is_taken : List ℕ → List Mark → Space → List ℕ → Bool
is_taken text marks space name = is_reserved space name || is_some (declaration_of text marks space name)

-- What stands in the way of a new name for an old one. Another spelling of the old name is always allowed.
abbrev pub refusal : List ℕ → List Mark → Space → List ℕ → List ℕ → Option RenameRefusal
refusal text marks space old new =
    if is_none (declaration_of text marks space old) then Some NotDeclared
    else (if not (is_name new) then Some NoName
    else (if not (is_same_folded old new) && is_taken text marks space new then Some Taken
    else None))

-- the marks of a name, unless something stands in the way
abbrev pub unless_refused : Option RenameRefusal → List Mark → Result (List Mark) RenameRefusal
unless_refused None found = Ok found
unless_refused (Some why) found = Err why

abbrev pub renaming : List ℕ → List Mark → Space → List ℕ → List ℕ → Result (List Mark) RenameRefusal
renaming text marks space old new =
    unless_refused (refusal text marks space old new) (marks_of_name text marks space old)

abbrev pub renaming_of : List ℕ → List Mark → Option Mark → List ℕ → Result (List Mark) RenameRefusal
renaming_of text marks None new = Err NotDeclared
renaming_of text marks (Some mark) new =
    renaming text marks (space_of mark.role) (part mark.start mark.end text) new

-- the marks that have to be the new name, so that the name at a place is called so
abbrev pub rename : List ℕ → List Mark → ℕ → List ℕ → Result (List Mark) RenameRefusal
rename text marks place new = renaming_of text marks (name_at place marks) new
