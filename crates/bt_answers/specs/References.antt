-- Where a key or a macro is mentioned.
use Rattle.std.specs.Prelude.{ℕ, ◌&&◌, not, Bool, true, false, if◌then◌else◌, List, [], ◌∷◌, ◌++◌, Option, Some, None}
use Rattle.serde_json.specs.Data.{Data, null, array}
use Rattle.serde_json.specs.View.{items_of}
use Rattle.bt_text.specs.CaseFolding.{is_same_folded}
use Rattle.bt_positions.specs.declared.counting.Counting.{Counting}
use Rattle.bt_positions.specs.declared.indexed_text.Position.{Position}
use Rattle.bt_documents.specs.declared.document.Document.{Document}
use Rattle.bt_mentions.specs.declared.mention.Role.{Role}
use Rattle.bt_mentions.specs.declared.mention.Role.TheVariants.{Key, Crossref, Number, Citation, Definition, Macro}
use Rattle.bt_mentions.specs.declared.mention.Mention.{Mention}
use Rattle.bt_mentions.specs.Databases.{part}
use Rattle.bt_answers.specs.declared.references.Wanted.{Wanted}
use Rattle.bt_answers.specs.declared.references.Wanted.TheVariants.{Keys, Macros, Definitions, KeyUses, MacroUses}
use Rattle.bt_style_answers.specs.declared.references.Lent.TheVariants as lent
use Rattle.bt_places.specs.Editor.{counting_in}
use Rattle.bt_answers.specs.Lending.{with_lent}
use Rattle.bt_places.specs.Mentioning.{is_key, mention_at}
use Rattle.bt_places.specs.Picking.{with_picked}
use Rattle.bt_places.specs.Shapes.{location, range_of}
use Rattle.bt_places.specs.Visiting.{with_files, with_texts, is_any}

-- whether a macro is defined here
abbrev pub is_definition : Role → Bool
is_definition Key = false
is_definition Crossref = false
is_definition Number = false
is_definition Citation = false
is_definition Definition = true
is_definition Macro = false

-- whether a name is used here, and not declared
abbrev pub is_use : Role → Bool
is_use Key = false
is_use Crossref = true
is_use Number = true
is_use Citation = true
is_use Definition = false
is_use Macro = true

-- whether a role is looked for
abbrev pub is_wanted : Wanted → Role → Bool
is_wanted Keys role = is_key role
is_wanted Macros role = not (is_key role)
is_wanted Definitions role = is_definition role
is_wanted KeyUses role = is_use role && is_key role
is_wanted MacroUses role = is_use role && not (is_key role)

-- whether a mention of a text is one of a name; names are compared without case
abbrev pub is_mention : Wanted → List ℕ → List ℕ → Mention → Bool
is_mention wanted name text m = is_wanted wanted m.role && is_same_folded (part m.from m.to text) name

-- a list with the place of a mention, if it is one of the name; `units` gives the units of each file's text
abbrev pub with_reference : (List ℕ → Counting) → Wanted → List ℕ → List ℕ → List ℕ → List Data → Mention → List Data
with_reference units wanted name uri text list m =
    if is_mention wanted name text m then list ++ location uri (range_of (units uri) text m.from m.to) ∷ [] else list

-- a list with the places of a name's mentions in a file
abbrev pub with_references : (List ℕ → Counting) → Wanted → List ℕ → List Data → List ℕ → List ℕ → List Data
with_references units wanted name list uri text = with_picked (with_reference units wanted name) list uri text

-- the places of a name's mentions in files and in open texts of LaTeX
abbrev pub all_references : List (List ℕ × List ℕ) → List Document → Counting → Wanted → List ℕ → List Data
all_references files docs c wanted name =
    let add = with_references (counting_in c docs) wanted name in
    with_texts add docs (with_files add files [])

-- whether a name is mentioned there
abbrev pub is_mentioned : List (List ℕ × List ℕ) → List Document → Counting → Wanted → List ℕ → Bool
is_mentioned files docs c wanted name = is_any (all_references files docs c wanted name)

-- the places as a value
abbrev pub references : List (List ℕ × List ℕ) → List Document → Counting → Wanted → List ℕ → Data
references files docs c wanted name = array (items_of (all_references files docs c wanted name))

-- what is looked for if a mention's name is asked about
abbrev pub wanted_of : Role → Wanted
wanted_of role = if is_key role then Keys else Macros

-- the same, with the declarations or without
abbrev pub asked_of : Role → Bool → Wanted
asked_of role with_declarations = if with_declarations then wanted_of role else (if is_key role then KeyUses else MacroUses)

-- where the name of a mention in a document is mentioned
abbrev pub references_of : List (List ℕ × List ℕ) → List Document → Counting → Document → Bool → Option Mention → Data
references_of files docs c d with_declarations None = null
references_of files docs c d with_declarations (Some m) =
    references files docs c (asked_of m.role with_declarations) (part m.from m.to d.text)

-- where the key or the macro at a position of a document is mentioned
abbrev pub references_at : List (List ℕ × List ℕ) → List Document → Counting → Document → Position → Bool → Data
references_at files docs c d at with_declarations = references_of files docs c d with_declarations (mention_at d at)

-- where databases and styles among files define a macro
abbrev pub macro_places : List (List ℕ × List ℕ) → List Document → Counting → List ℕ → Data
macro_places files docs c name =
    let defined = all_references files docs c Definitions name in
    array (items_of (with_files (with_lent (counting_in c docs) lent.Macro name) files defined))

-- where the macro of a mention in a document is defined
abbrev pub macro_of : List (List ℕ × List ℕ) → List Document → Counting → Document → Option Mention → Option Data
macro_of files docs c d None = None
macro_of files docs c d (Some m) =
    if is_key m.role then None else Some (macro_places files docs c (part m.from m.to d.text))

-- where the macro at a position of a document is defined
abbrev pub macro_at : List (List ℕ × List ℕ) → List Document → Counting → Document → Position → Option Data
macro_at files docs c d at = macro_of files docs c d (mention_at d at)
