-- Names that nothing uses, names that nothing declares, and the likely name behind a misspelling.
use Rattle.std.specs.Prelude.{ℕ, ◌==◌, ◌&&◌, ◌||◌, not, min, nat_eq, nat_lt, Bool, true, false, if◌then◌else◌, List, [], ◌∷◌, length, filter, codes, is_none}
use Rattle.std.specs.List.{list_any}
use Rattle.strsim.specs.Edits.{levenshtein_row}
use Rattle.bt_text.specs.CaseFolding.{is_same_folded}
use Rattle.bt_style.specs.declared.builtin.Builtin.{Builtin}
use Rattle.bt_style.specs.Builtins.{name_of}
use Rattle.bt_style_text.specs.declared.roles.Kind.{Kind}
use Rattle.bt_style_text.specs.declared.roles.Kind.TheVariants as kinds
use Rattle.bt_style_text.specs.declared.roles.Role.{Role}
use Rattle.bt_style_text.specs.declared.roles.Role.TheVariants as roles
use Rattle.bt_style_text.specs.declared.marks.Mark.{Mark}
use Rattle.bt_style_text.specs.declared.names.Space.TheVariants.{Names}
use Rattle.bt_style_text.specs.declared.hinting.Likely.{Likely}
use Rattle.bt_style_text.specs.declared.hinting.Likely.TheVariants as found
use Rattle.bt_style_text.specs.declared.hinting.Nearest.{Nearest}
use Rattle.bt_style_text.specs.Parts.{part}
use Rattle.bt_style_text.specs.Names.{declares, declaration_of}
use Rattle.bt_style_text.specs.Builtins.{all_builtins, builtin_named, is_preset}
use Rattle.bt_style_text.specs.Uses.{uses, use_count}

-- whether a byte is a dot or a dollar
abbrev pub is_inner_byte : ℕ → Bool
is_inner_byte b = b == 46 || b == 36

-- whether a function has a name that no database would use for a type
abbrev pub is_inner : List ℕ → Bool
is_inner name = list_any is_inner_byte name && not (is_same_folded name (codes "default.type"))

abbrev pub can_be_unused_kind : Kind → List ℕ → Bool
can_be_unused_kind kinds.Function name = is_inner name
can_be_unused_kind kinds.Macro name = false
can_be_unused_kind _ name = true

-- whether a declaration of a name would be worth nothing without a use
abbrev pub can_be_unused : Role → List ℕ → Bool
can_be_unused (roles.Declared kind) name = can_be_unused_kind kind name
can_be_unused _ name = false

-- whether a mark declares what none of these marks uses
unfoldable pub is_unused : List ℕ → List Mark → Mark → Bool
is_unused text marks mark =
    let name = part mark.start mark.end text in can_be_unused mark.role name && use_count text name marks == 0

-- those of some marks that declare what none of all marks uses
abbrev pub unused_among : List ℕ → List Mark → List Mark → List Mark
unused_among text all marks = filter (is_unused text all) marks

-- the fields, variables and functions that nothing uses
abbrev pub unused : List ℕ → List Mark → List Mark
unused text marks = unused_among text marks marks

-- the declarations of a style
abbrev pub declarations : List Mark → List Mark
declarations marks = filter (λ (mark : Mark). declares mark.role) marks

-- whether a mark uses a name that is not among these declarations, and that BibTeX doesn't have
abbrev pub is_unknown : List ℕ → List Mark → Mark → Bool
is_unknown text declared mark =
    let name = part mark.start mark.end text in
    uses mark.role && is_none (builtin_named name) && not (is_preset name) && is_none (declaration_of text declared Names name)

-- the marks that use a name which nothing declares, by a style's declarations
abbrev pub unknown : List ℕ → List Mark → List Mark → List Mark
unknown text marks declared = filter (is_unknown text declared) marks

-- how many bytes must be put in, left out or replaced to make one name of another
abbrev pub edits : List ℕ → List ℕ → ℕ
edits from to = levenshtein_row nat_eq from to (length to)

-- the number of edits that a misspelling must have less than: three, and for a short name its bytes
abbrev pub most_edits : List ℕ → ℕ
most_edits name = min (length name) 3

-- the nearer one of a name and the nearest so far
abbrev pub nearer : List ℕ → Nearest → List ℕ → Likely → Nearest
nearer name nearest other one =
    if nat_lt (edits name other) nearest.edits then record { name = one; edits = edits name other } else nearest

abbrev pub nearer_mark : List ℕ → List ℕ → Nearest → Mark → Nearest
nearer_mark text name nearest mark = nearer name nearest (part mark.start mark.end text) (found.Declared mark)

abbrev pub nearer_builtin : List ℕ → Nearest → Builtin → Nearest
nearer_builtin name nearest builtin = nearer name nearest (name_of builtin) (found.Builtin builtin)

-- the nearest of marks, and of what was there before
abbrev pub nearest_mark : List ℕ → List ℕ → Nearest → List Mark → Nearest
nearest_mark text name nearest [] = nearest
nearest_mark text name nearest (mark ∷ marks) = nearest_mark text name (nearer_mark text name nearest mark) marks

-- the nearest of built-in functions, and of what was there before
abbrev pub nearest_builtin : List ℕ → Nearest → List Builtin → Nearest
nearest_builtin name nearest [] = nearest
nearest_builtin name nearest (builtin ∷ builtins) =
    nearest_builtin name (nearer_builtin name nearest builtin) builtins

-- The name that is probably meant by one that nothing declares: one of the declared names or the built-in functions, the
-- first of those with the fewest edits, if these are at most two.
abbrev pub meant : List ℕ → List Mark → List ℕ → Likely
meant text declared name =
    (nearest_builtin name (nearest_mark text name (record { name = found.Nothing; edits = most_edits name }) declared)
    all_builtins).name

-- its bytes; none if there is no such name
abbrev pub likely_name : List ℕ → Likely → List ℕ
likely_name text found.Nothing = []
likely_name text (found.Declared mark) = part mark.start mark.end text
likely_name text (found.Builtin builtin) = name_of builtin
