-- Which functions use a name, and how often it is used and set.
use Rattle.std.specs.Prelude.{ℕ, ◌+◌, ◌&&◌, Bool, true, false, if◌then◌else◌, List, [], ◌∷◌, ◌++◌, bytes_eq, codes, count_by, Option, Some, None}
use Rattle.bt_style_text.specs.declared.roles.Kind.{Kind}
use Rattle.bt_style_text.specs.declared.roles.Kind.TheVariants as kinds
use Rattle.bt_style_text.specs.declared.roles.Role.{Role}
use Rattle.bt_style_text.specs.declared.roles.Role.TheVariants as roles
use Rattle.bt_style_text.specs.declared.marks.Mark.{Mark}
use Rattle.bt_style_text.specs.declared.names.Space.TheVariants.{Names}
use Rattle.bt_style_text.specs.Parts.{part}
use Rattle.bt_style_text.specs.Names.{is_name_of}

-- whether a role uses a name
abbrev pub uses : Role → Bool
uses roles.Called = true
uses roles.Quoted = true
uses _ = false

-- whether a mark uses a name
abbrev pub is_use_of : List ℕ → List ℕ → Mark → Bool
is_use_of text name mark = uses mark.role && is_name_of text Names name mark

abbrev pub function_by_kind : Kind → Option Mark → Mark → Option Mark
function_by_kind kinds.Function function mark = Some mark
function_by_kind _ function mark = function

abbrev pub function_by : Role → Option Mark → Mark → Option Mark
function_by (roles.Command command) function mark = None
function_by (roles.Declared kind) function mark = function_by_kind kind function mark
function_by _ function mark = function

-- the function in which the words after a mark are, if they are in one
abbrev pub function_after : Option Mark → Mark → Option Mark
function_after function mark = function_by mark.role function mark

-- the function that is still to be named as a user after a mark: none if it has been named
abbrev pub next_function : Bool → Option Mark → Mark → Option Mark
next_function is_use function mark = if is_use then None else function_after function mark

-- the function in which a use stands
abbrev pub caller_at : Bool → Option Mark → List Mark
caller_at true (Some function) = function ∷ []
caller_at true None = []
caller_at false function = []

-- the functions that use a name, each once, of which the first words stand in this one
abbrev pub callers_from : List ℕ → List ℕ → Option Mark → List Mark → List Mark
callers_from text name function [] = []
callers_from text name function (mark ∷ marks) =
    let is_use = is_use_of text name mark in
    caller_at is_use function ++ callers_from text name (next_function is_use function mark) marks

-- the functions that use a name
abbrev pub callers : List ℕ → List ℕ → List Mark → List Mark
callers text name marks = callers_from text name None marks

-- how often a name is used
abbrev pub use_count : List ℕ → List ℕ → List Mark → ℕ
use_count text name marks = count_by (is_use_of text name) marks

-- whether `:=` follows at once
abbrev pub is_assigned : List ℕ → List Mark → Bool
is_assigned text [] = false
is_assigned text (mark ∷ marks) = bytes_eq (part mark.start mark.end text) (codes ":=")

-- how often a variable is set: the uses of its name that `:=` follows
abbrev pub set_count : List ℕ → List ℕ → List Mark → ℕ
set_count text name [] = 0
set_count text name (mark ∷ behind) =
    (if is_use_of text name mark && is_assigned text behind then 1 else 0) + set_count text name behind
