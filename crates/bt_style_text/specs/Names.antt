-- Where names are declared and used.
use Rattle.std.specs.Prelude.{ℕ, ◌&&◌, nat_le, Bool, true, false, List, [], filter, Option, Some, None}
use Rattle.std.specs.List.{find}
use Rattle.bt_text.specs.CaseFolding.{is_same_folded}
use Rattle.bt_style_text.specs.declared.roles.Kind.{Kind}
use Rattle.bt_style_text.specs.declared.roles.Kind.TheVariants as kinds
use Rattle.bt_style_text.specs.declared.roles.Role.{Role}
use Rattle.bt_style_text.specs.declared.roles.Role.TheVariants as roles
use Rattle.bt_style_text.specs.declared.marks.Mark.{Mark}
use Rattle.bt_style_text.specs.declared.names.Space.{Space}
use Rattle.bt_style_text.specs.declared.names.Space.TheVariants.{Nothing, Names, Macros}
use Rattle.bt_style_text.specs.Parts.{part}

-- the names among which something is declared
abbrev pub space_of_kind : Kind → Space
space_of_kind kinds.Macro = Macros
space_of_kind _ = Names

-- which names a role can stand for
abbrev pub space_of : Role → Space
space_of (roles.Declared kind) = space_of_kind kind
space_of roles.Called = Names
space_of roles.Quoted = Names
space_of _ = Nothing

-- whether a role stands for a name
abbrev pub is_space : Space → Bool
is_space Nothing = false
is_space Names = true
is_space Macros = true

abbrev pub is_named : Role → Bool
is_named role = is_space (space_of role)

-- whether a role declares a name
abbrev pub declares : Role → Bool
declares (roles.Declared kind) = true
declares _ = false

-- whether two spaces are the same one, and not that of no names
abbrev pub is_same_space : Space → Space → Bool
is_same_space Names Names = true
is_same_space Macros Macros = true
is_same_space _ _ = false

-- whether a mark stands for a name of a space
abbrev pub is_name_of : List ℕ → Space → List ℕ → Mark → Bool
is_name_of text space name mark =
    is_same_space space (space_of mark.role) && is_same_folded (part mark.start mark.end text) name

-- whether a mark is the declaration of a name
abbrev pub is_declaration_of : List ℕ → Space → List ℕ → Mark → Bool
is_declaration_of text space name mark = declares mark.role && is_name_of text space name mark

abbrev pub is_name_at : ℕ → Mark → Bool
is_name_at place mark = is_named mark.role && nat_le mark.start place && nat_le place mark.end

-- the name at a place, whose end counts as well
abbrev pub name_at : ℕ → List Mark → Option Mark
name_at place marks = find (is_name_at place) marks

-- where a name is declared: at the first of its declarations
abbrev pub declaration_of : List ℕ → List Mark → Space → List ℕ → Option Mark
declaration_of text marks space name = find (is_declaration_of text space name) marks

abbrev pub definition_of : List ℕ → List Mark → Option Mark → Option Mark
definition_of text marks None = None
definition_of text marks (Some mark) =
    declaration_of text marks (space_of mark.role) (part mark.start mark.end text)

-- where the name at a place is declared
abbrev pub definition : List ℕ → List Mark → ℕ → Option Mark
definition text marks place = definition_of text marks (name_at place marks)

-- all marks that stand for a name
abbrev pub marks_of_name : List ℕ → List Mark → Space → List ℕ → List Mark
marks_of_name text marks space name = filter (is_name_of text space name) marks

abbrev pub references_of : List ℕ → List Mark → Option Mark → List Mark
references_of text marks None = []
references_of text marks (Some mark) =
    marks_of_name text marks (space_of mark.role) (part mark.start mark.end text)

-- all marks that stand for the name at a place, its declarations too
abbrev pub references : List ℕ → List Mark → ℕ → List Mark
references text marks place = references_of text marks (name_at place marks)
