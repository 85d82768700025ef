-- Where the name under the cursor is declared, and where it is used; and where a name is declared that a database uses.
use Rattle.std.specs.Prelude.{ℕ, ◌&&◌, ◌||◌, not, Bool, true, false, List, [], ◌∷◌, ◌++◌, codes, map, filter, Option, Some, None}
use Rattle.std.specs.List.{find}
use Rattle.serde_json.specs.Data.{Data, null, array}
use Rattle.serde_json.specs.View.{items_of}
use Rattle.bt_text.specs.CaseFolding.{is_same_folded}
use Rattle.bt_positions.specs.Positions.{offset_of}
use Rattle.bt_positions.specs.declared.counting.Counting.{Counting}
use Rattle.bt_positions.specs.declared.indexed_text.Position.{Position}
use Rattle.bt_style_text.specs.declared.marks.Mark.{Mark}
use Rattle.bt_style_text.specs.declared.roles.Kind.TheVariants as kinds
use Rattle.bt_style_text.specs.declared.roles.Role.{Role}
use Rattle.bt_style_text.specs.declared.roles.Role.TheVariants as roles
use Rattle.bt_style_text.specs.Parts.{part}
use Rattle.bt_style_text.specs.Marks.{marks_of}
use Rattle.bt_style_text.specs.Names.{declares, definition, references}
use Rattle.bt_style_answers.specs.declared.references.Lent.{Lent}
use Rattle.bt_style_answers.specs.declared.references.Lent.TheVariants.{Function, Macro}
use Rattle.bt_shapes.specs.Shapes.{location, range_of}

-- where a mark stands
abbrev pub mark_location : Counting → List ℕ → List ℕ → Mark → Data
mark_location c uri words mark = location uri (range_of c words mark.start mark.end)

abbrev pub maybe_location : Counting → List ℕ → List ℕ → Option Mark → Data
maybe_location c uri words None = null
maybe_location c uri words (Some mark) = mark_location c uri words mark

-- where the name at a position is declared; null if the style doesn't declare it
abbrev pub definition_at : Counting → List ℕ → List ℕ → Position → Data
definition_at c uri words at = maybe_location c uri words (definition words (marks_of words) (offset_of c at words))

-- marks, with the declarations among them or without
abbrev pub asked_of : List Mark → Bool → List Mark
asked_of marks with_declarations = filter (λ (m : Mark). with_declarations || not (declares m.role)) marks

-- all places that have the name at a position, its declarations too if they are asked for
abbrev pub references_at : Counting → List ℕ → List ℕ → Position → Bool → Data
references_at c uri words at with_declarations =
    let found = references words (marks_of words) (offset_of c at words) in
    array (items_of (map (mark_location c uri words) (asked_of found with_declarations)))

-- whether a role declares what a database uses so
abbrev pub is_meant : Lent → Role → Bool
is_meant Function (roles.Declared kinds.Function) = true
is_meant Macro (roles.Declared kinds.Macro) = true
is_meant _ _ = false

-- whether a mark declares what a database uses so by a name
abbrev pub is_declared : List ℕ → Lent → List ℕ → Mark → Bool
is_declared words lent name m = is_meant lent m.role && is_same_folded (part m.start m.end words) name

abbrev pub declaration_named : List ℕ → List Mark → Lent → List ℕ → Option Mark
declaration_named words marks lent name = find (is_declared words lent name) marks

-- the type of entries whose own has no function
abbrev pub or_default : List ℕ → List Mark → Lent → Option Mark → Option Mark
or_default words marks lent (Some m) = Some m
or_default words marks Function None = declaration_named words marks Function (codes "default.type")
or_default words marks Macro None = None

-- where a style declares what a database uses by a name
abbrev pub lent_declaration : List ℕ → List Mark → Lent → List ℕ → Option Mark
lent_declaration words marks lent name = or_default words marks lent (declaration_named words marks lent name)

abbrev pub with_mark : Counting → List ℕ → List ℕ → List Data → Option Mark → List Data
with_mark c uri words list None = list
with_mark c uri words list (Some m) = list ++ mark_location c uri words m ∷ []

-- a list with the place where a style declares what a database uses by a name, if it does
abbrev pub with_declaration : Counting → List ℕ → List ℕ → Lent → List ℕ → List Data → List Data
with_declaration c uri words lent name list = with_mark c uri words list (lent_declaration words (marks_of words) lent name)
