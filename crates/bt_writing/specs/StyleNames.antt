-- What a style's text has for databases: the fields that its functions name, and the types of entries.
use Rattle.std.specs.Prelude.{ℕ, ◌+◌, ◌==◌, ◌&&◌, ◌||◌, not, Bool, true, false, if◌then◌else◌, List, [], ◌∷◌, count_by}
use Rattle.std.specs.List.{list_any}
use Rattle.bt_text.specs.CaseFolding.{is_same_folded}
use Rattle.bt_style_text.specs.declared.roles.Kind.{Kind}
use Rattle.bt_style_text.specs.declared.roles.Kind.TheVariants as kinds
use Rattle.bt_style_text.specs.declared.roles.Role.{Role}
use Rattle.bt_style_text.specs.declared.roles.Role.TheVariants as roles
use Rattle.bt_style_text.specs.declared.marks.Mark.{Mark}
use Rattle.bt_style_text.specs.Parts.{part}

abbrev pub is_field_kind : Kind → Bool
is_field_kind kinds.Field = true
is_field_kind _ = false

-- whether a word declares a field
abbrev pub is_field : Role → Bool
is_field (roles.Declared kind) = is_field_kind kind
is_field _ = false

abbrev pub is_function_kind : Kind → Bool
is_function_kind kinds.Function = true
is_function_kind _ = false

-- whether a word declares a function
abbrev pub is_function : Role → Bool
is_function (roles.Declared kind) = is_function_kind kind
is_function _ = false

abbrev pub is_macro_kind : Kind → Bool
is_macro_kind kinds.Macro = true
is_macro_kind _ = false

-- whether a word declares a macro
abbrev pub is_macro : Role → Bool
is_macro (roles.Declared kind) = is_macro_kind kind
is_macro _ = false

-- whether a word calls or quotes a name
abbrev pub is_use : Role → Bool
is_use roles.Called = true
is_use roles.Quoted = true
is_use _ = false

abbrev pub is_end : Role → Bool
is_end roles.Close = true
is_end _ = false

-- whether a mark calls or quotes this name
abbrev pub names : List ℕ → List ℕ → Mark → Bool
names text name mark = is_use mark.role && is_same_folded (part mark.start mark.end text) name

-- whether a mark declares a field that a function of the style names
abbrev pub is_read : List ℕ → List Mark → Mark → Bool
is_read text marks mark = is_field mark.role && list_any (names text (part mark.start mark.end text)) marks

-- whether a style declares a function of this name
abbrev pub has_function : List ℕ → List Mark → List ℕ → Bool
has_function text marks name =
    list_any (λ (mark : Mark). is_function mark.role && is_same_folded (part mark.start mark.end text) name) marks

-- whether a function is declared here that does nothing but call a name: `online } { electronic }`
abbrev pub is_alias : List ℕ → List ℕ → Mark → List Mark → Bool
is_alias text name mark (close ∷ brace ∷ word ∷ last ∷ rest) =
    is_function mark.role && names text name word && is_end last.role
is_alias text name mark _ = false

-- how many functions do nothing but call a name
abbrev pub alias_count : List ℕ → List ℕ → List Mark → ℕ
alias_count text name [] = 0
alias_count text name (mark ∷ behind) = (if is_alias text name mark behind then 1 else 0) + alias_count text name behind

-- whether a byte is a dot or a dollar
abbrev pub is_inner_byte : ℕ → Bool
is_inner_byte b = b == 46 || b == 36

-- Whether a mark declares a function for a type of entries. The style doesn't tell: each function can be one. We take those
-- whose names have no dot and no dollar, and which nothing names but functions that do nothing else.
abbrev pub is_type : List ℕ → List Mark → Mark → Bool
is_type text marks mark =
    let name = part mark.start mark.end text in
    is_function mark.role && not (list_any is_inner_byte name) && count_by (names text name) marks == alias_count text name marks
