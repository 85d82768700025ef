-- What an editor shows of the name under the cursor, as Markdown.
use Rattle.std.specs.Prelude.{ℕ, ◌+◌, ◌==◌, Bool, if◌then◌else◌, List, [], ◌∷◌, ◌++◌, length, codes, decimal, Option, Some, None}
use Rattle.std.specs.List.{find}
use Rattle.bt_style.specs.declared.builtin.Builtin.{Builtin}
use Rattle.bt_style_text.specs.declared.roles.Kind.{Kind}
use Rattle.bt_style_text.specs.declared.roles.Kind.TheVariants as kinds
use Rattle.bt_style_text.specs.declared.marks.Mark.{Mark}
use Rattle.bt_style_text.specs.declared.comments.Run.{Run}
use Rattle.bt_style_text.specs.declared.outline.Symbol.{Symbol}
use Rattle.bt_style_text.specs.Parts.{part}
use Rattle.bt_style_text.specs.Lines.{first_lines}
use Rattle.bt_style_text.specs.Names.{space_of, name_at, declaration_of}
use Rattle.bt_style_text.specs.Builtins.{builtin_named, is_preset}
use Rattle.bt_style_text.specs.Outline.{symbols_of}
use Rattle.bt_style_text.specs.Uses.{callers, use_count, set_count}
use Rattle.bt_style_text.specs.Comments.{line_number, comment_above}
use Rattle.bt_style_text.specs.Help.{help_of}
use Rattle.bt_style_text.specs.Costs.{cost_of}

-- what a name is declared as
abbrev pub kind_words : Kind → List ℕ
kind_words kinds.Field = codes "field"
kind_words kinds.EntryInteger = codes "integer variable of entries"
kind_words kinds.EntryString = codes "string variable of entries"
kind_words kinds.GlobalInteger = codes "integer variable"
kind_words kinds.GlobalString = codes "string variable"
kind_words kinds.Function = codes "function"
kind_words kinds.Macro = codes "macro"

-- what is declared, and in which line, from 0
abbrev pub declaration_words : List ℕ → List ℕ → ℕ → List ℕ
declaration_words name kind line =
    codes "`" ++ name ++ codes "`: " ++ kind ++ codes ", line " ++ decimal (line + 1) ++ codes "\n\n"

-- the first lines of a comment
abbrev pub above_words : List ℕ → Option Run → List ℕ
above_words text None = []
above_words text (Some run) = first_lines 12 (part run.start run.end text) ++ codes "\n"

-- a command as a block of code: the comment above it, and its first lines
abbrev pub code_words : List ℕ → List Mark → Symbol → List ℕ
code_words text marks symbol =
    codes "```bst\n" ++ above_words text (comment_above text symbol.start marks) ++
    (first_lines 12 (part symbol.start symbol.end text) ++ codes "\n```\n\n")

-- names
abbrev pub listed : List ℕ → List Mark → List ℕ
listed text [] = []
listed text (name ∷ names) = (codes " `" ++ part name.start name.end text ++ codes "`") ++ listed text names

-- how many functions use a name
abbrev pub user_count : ℕ → List ℕ
user_count count = codes "Functions that use it: " ++ decimal count

-- how many functions there are, and their names
abbrev pub counted : List ℕ → List Mark → List ℕ
counted text users = user_count (length users) ++ listed text users

-- the functions that use a name
abbrev pub users_words : List ℕ → List ℕ → List Mark → List ℕ
users_words text name marks = counted text (callers text name marks)

-- how often a variable is used and set
abbrev pub count_words : List ℕ → List ℕ → List Mark → List ℕ
count_words text name marks =
    codes "Places that use it: " ++ decimal (use_count text name marks) ++ codes ", that set it: " ++
    decimal (set_count text name marks) ++ codes "\n\n"

-- what is said of a variable
abbrev pub variable_words : List ℕ → List ℕ → List Mark → List ℕ
variable_words text name marks = count_words text name marks ++ users_words text name marks

-- what stands below the first line of what is said of a symbol of a kind
abbrev pub kind_hover : List ℕ → List Mark → Symbol → Kind → List ℕ
kind_hover text marks symbol kinds.Function =
    code_words text marks symbol ++ users_words text (part symbol.name.start symbol.name.end text) marks
kind_hover text marks symbol kinds.Macro = code_words text marks symbol
kind_hover text marks symbol kinds.Field = users_words text (part symbol.name.start symbol.name.end text) marks
kind_hover text marks symbol kinds.EntryInteger =
    variable_words text (part symbol.name.start symbol.name.end text) marks
kind_hover text marks symbol kinds.EntryString =
    variable_words text (part symbol.name.start symbol.name.end text) marks
kind_hover text marks symbol kinds.GlobalInteger =
    variable_words text (part symbol.name.start symbol.name.end text) marks
kind_hover text marks symbol kinds.GlobalString =
    variable_words text (part symbol.name.start symbol.name.end text) marks

-- what is said of something that a style declares
abbrev pub symbol_hover : List ℕ → List Mark → Symbol → List ℕ
symbol_hover text marks symbol =
    declaration_words (part symbol.name.start symbol.name.end text) (kind_words symbol.kind)
    (line_number symbol.name.start text) ++ kind_hover text marks symbol symbol.kind

-- the symbol whose name begins at a place
abbrev pub symbol_at : ℕ → List Symbol → Option Symbol
symbol_at place symbols = find (λ (symbol : Symbol). symbol.name.start == place) symbols

abbrev pub maybe_hover : List ℕ → List Mark → Option Symbol → List ℕ
maybe_hover text marks None = []
maybe_hover text marks (Some symbol) = symbol_hover text marks symbol

-- what is said of the name that a style declares at a place
abbrev pub declared_hover : List ℕ → List Mark → ℕ → List ℕ
declared_hover text marks place = maybe_hover text marks (symbol_at place (symbols_of marks))

-- what is said of a built-in function: what it does, and what it costs
abbrev pub builtin_hover : Builtin → List ℕ
builtin_hover builtin = help_of builtin ++ codes "\n\nCost: " ++ cost_of builtin

abbrev pub maybe_builtin : Option Builtin → List ℕ → List ℕ
maybe_builtin (Some builtin) name = builtin_hover builtin
maybe_builtin None name =
    if is_preset name then codes "`" ++ name ++ codes "`: declared by BibTeX itself" else []

-- what is said of a name that no style declares: a built-in function, or one that BibTeX declares itself
abbrev pub preset_hover : List ℕ → List ℕ
preset_hover name = maybe_builtin (builtin_named name) name

abbrev pub name_hover : List ℕ → List Mark → Option Mark → List ℕ → List ℕ
name_hover text marks (Some declaration) name = declared_hover text marks declaration.start
name_hover text marks None name = preset_hover name

abbrev pub mark_hover : List ℕ → List Mark → Option Mark → List ℕ
mark_hover text marks None = []
mark_hover text marks (Some mark) =
    let name = part mark.start mark.end text in
    name_hover text marks (declaration_of text marks (space_of mark.role) name) name

-- what is said of the name at a place; the empty text if there is nothing to say
abbrev pub hover_of : List ℕ → List Mark → ℕ → List ℕ
hover_of text marks place = mark_hover text marks (name_at place marks)
