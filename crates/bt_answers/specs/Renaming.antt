-- Renames a key or a macro.
use Rattle.std.specs.Prelude.{ℕ, nat_lt, ◌==◌, ◌&&◌, ◌||◌, not, Bool, true, false, if◌then◌else◌, List, [], ◌∷◌, ◌++◌, length, Option, Some, None, Result, Ok, Err}
use Rattle.std.specs.List.{fold, list_all}
use Rattle.serde_json.specs.Data.{Data, null}
use Rattle.bt_text.specs.CaseFolding.{is_same_folded}
use Rattle.bt_text.specs.NameBytes.{is_name}
use Rattle.bt_positions.specs.declared.counting.Counting.{Counting}
use Rattle.bt_positions.specs.declared.indexed_text.Position.{Position}
use Rattle.bt_rpc.specs.declared.answers.RpcError.{RpcError}
use Rattle.bt_rpc.specs.declared.answers.RpcError.TheVariants.{InvalidParams, BadName, TakenName, UndefinedMacro, InexactRename}
use Rattle.bt_bib.specs.BibText.{pieces_of}
use Rattle.bt_documents.specs.declared.document.Document.{Document}
use Rattle.bt_edited.specs.declared.edits.Edit.{Edit}
use Rattle.bt_edited.specs.declared.changes.Change.{Change}
use Rattle.bt_edited.specs.declared.changes.Change.TheVariants as changes
use Rattle.bt_edited.specs.Edits.{edit_of, text_after_edits}
use Rattle.bt_edited.specs.Becomes.{is_made}
use Rattle.bt_answers.specs.EditValues.{edit_values}
use Rattle.bt_mentions.specs.KeyBytes.{is_key_byte}
use Rattle.bt_mentions.specs.declared.mention.Role.{Role}
use Rattle.bt_mentions.specs.declared.mention.Role.TheVariants.{Key, Crossref, Number, Citation, Definition, Macro}
use Rattle.bt_mentions.specs.declared.mention.Mention.{Mention}
use Rattle.bt_mentions.specs.Databases.{part}
use Rattle.bt_answers.specs.declared.references.Wanted.{Wanted}
use Rattle.bt_answers.specs.declared.name_edits.Renaming.{Renaming}
use Rattle.bt_answers.specs.declared.references.Wanted.TheVariants.{Keys, Macros, Definitions, KeyUses, MacroUses}
use Rattle.bt_style_answers.specs.declared.references.Lent.TheVariants as lent
use Rattle.bt_places.specs.Editor.{counting_in}
use Rattle.bt_places.specs.Entries.{is_database}
use Rattle.bt_places.specs.Mentioning.{is_key, mention_at, mentions_of}
use Rattle.bt_answers.specs.Lending.{with_lent}
use Rattle.bt_answers.specs.References.{is_mention, is_mentioned, wanted_of}
use Rattle.bt_places.specs.Shapes.{range_of}
use Rattle.bt_places.specs.Visiting.{with_files, with_texts, is_any}
pub use Rattle.bt_shapes.specs.Shapes.{text_edit, file_edit, workspace_edit}

-- how a mention of this role spells a name: a number becomes a text in braces
abbrev pub spelling : Role → List ℕ → List ℕ
spelling Key name = name
spelling Crossref name = name
spelling Number name = 123 ∷ name ++ 125 ∷ []
spelling Citation name = name
spelling Definition name = name
spelling Macro name = name

-- edits with the one of a mention, if it is one of the old name
abbrev pub with_edit : Counting → Wanted → List ℕ → List ℕ → List ℕ → List Edit → Mention → List Edit
with_edit c wanted old new words es m =
    if is_mention wanted old words m then es ++ edit_of c words m.from m.to (spelling m.role new) ∷ [] else es

-- the edits that rename the mentions of a file of at most 1 GiB; `units` gives the units of each file's text
abbrev pub name_edits : (List ℕ → Counting) → Wanted → List ℕ → List ℕ → List ℕ → List ℕ → List Edit
name_edits units wanted old new uri words =
    if nat_lt 1073741824 (length words) then []
    else fold (with_edit (units uri) wanted old new words) [] (mentions_of uri words)

-- a list with the edits of a file, if there are any
abbrev pub with_file_edit : List Data → List ℕ → List Data → List Data
with_file_edit list uri edits = if is_any edits then list ++ file_edit uri edits ∷ [] else list

-- a list with the edits that rename the mentions of a file
abbrev pub with_renamed : (List ℕ → Counting) → Wanted → List ℕ → List ℕ → List Data → List ℕ → List ℕ → List Data
with_renamed units wanted old new list uri words =
    with_file_edit list uri (edit_values (name_edits units wanted old new uri words))

-- the text of a file after its edits
abbrev pub renamed_text : (List ℕ → Counting) → Wanted → List ℕ → List ℕ → List ℕ → List ℕ → Option (List ℕ)
renamed_text units wanted old new uri words = text_after_edits (units uri) (name_edits units wanted old new uri words) words

-- what is to become of items
abbrev pub change_of : Wanted → List ℕ → List ℕ → Change
change_of Keys old new = changes.Key old new
change_of Macros old new = changes.Macro old new
change_of Definitions old new = changes.Macro old new
change_of KeyUses old new = changes.Key old new
change_of MacroUses old new = changes.Macro old new

-- whether the edits of a database change the name in its items and nothing else
abbrev pub is_database_renamed : (List ℕ → Counting) → Wanted → List ℕ → List ℕ → List ℕ → List ℕ → Bool
is_database_renamed units wanted old new uri words =
    is_made (change_of wanted old new) (pieces_of words) (renamed_text units wanted old new uri words)

-- the same of a file, if it is a database
abbrev pub is_renamed : (List ℕ → Counting) → Wanted → List ℕ → List ℕ → List ℕ → List ℕ → Bool
is_renamed units wanted old new uri words =
    not (is_database uri) || is_database_renamed units wanted old new uri words

-- the same of files before and of one more
abbrev pub also_renamed : (List ℕ → Counting) → Wanted → List ℕ → List ℕ → Bool → List ℕ × List ℕ → Bool
also_renamed units wanted old new before f = before && is_renamed units wanted old new f.0 f.1

-- the same of all files
abbrev pub are_renamed : List (List ℕ × List ℕ) → List Document → Counting → Wanted → List ℕ → List ℕ → Bool
are_renamed files docs c wanted old new = fold (also_renamed (counting_in c docs) wanted old new) true files

-- whether a text can be a key in any entry and citation
abbrev pub is_new_key : List ℕ → Bool
is_new_key [] = false
is_new_key (b ∷ t) = list_all is_key_byte (b ∷ t)

-- whether a text can be the name of what is looked for
abbrev pub can_be_named : Wanted → List ℕ → Bool
can_be_named Keys new = is_new_key new
can_be_named Macros new = is_name new
can_be_named Definitions new = is_name new
can_be_named KeyUses new = is_new_key new
can_be_named MacroUses new = is_name new

-- all edits that give a name's mentions the new name
abbrev pub rename_edit : List (List ℕ × List ℕ) → List Document → Counting → Wanted → List ℕ → List ℕ → Data
rename_edit files docs c wanted old new =
    let add = with_renamed (counting_in c docs) wanted old new in
    workspace_edit (with_texts add docs (with_files add files []))

-- whether a name is free: nothing has it, or it is the old one in another spelling
abbrev pub is_free : List (List ℕ × List ℕ) → List Document → Counting → Wanted → List ℕ → List ℕ → Bool
is_free files docs c wanted old new = is_same_folded new old || not (is_mentioned files docs c wanted new)

-- whether the style defines a macro
abbrev pub is_lent : List (List ℕ × List ℕ) → List Document → Counting → List ℕ → Bool
is_lent files docs c name = is_any (with_files (with_lent (counting_in c docs) lent.Macro name) files [])

-- whether databases define a macro, and the style doesn't: uses before the `@string` have the style's value
abbrev pub is_own : List (List ℕ × List ℕ) → List Document → Counting → List ℕ → Bool
is_own files docs c name = is_mentioned files docs c Definitions name && not (is_lent files docs c name)

-- whether databases alone define what is looked for; a key needs no entry
abbrev pub is_defined : List (List ℕ × List ℕ) → List Document → Counting → Wanted → List ℕ → Bool
is_defined files docs c Keys old = true
is_defined files docs c Macros old = is_own files docs c old
is_defined files docs c Definitions old = is_own files docs c old
is_defined files docs c KeyUses old = true
is_defined files docs c MacroUses old = is_own files docs c old

-- The edits. They are refused if the new name can't be one or isn't free, and for a macro that the style defines: its text
-- isn't changed, so uses of the macro would become undefined. They are refused, too, if the items of a database would not be
-- those before with the name changed.
abbrev pub renamed_if_free : List (List ℕ × List ℕ) → List Document → Counting → Wanted → List ℕ → List ℕ → Result Data RpcError
renamed_if_free files docs c wanted old new =
    if not (can_be_named wanted new) then Err BadName
    else (if not (is_free files docs c wanted old new) then Err TakenName
    else (if not (is_defined files docs c wanted old) then Err UndefinedMacro
    else (if not (are_renamed files docs c wanted old new) then Err InexactRename
    else Ok (rename_edit files docs c wanted old new))))

-- a definition over files and the parts of a renaming, applied to a renaming
abbrev pub of_renaming : {A : Type 0} → (List (List ℕ × List ℕ) → List Document → Counting → Wanted → List ℕ → List ℕ → A) →
    List (List ℕ × List ℕ) → Renaming → A
of_renaming f files r = f files r.editor.documents.now r.editor.counting r.wanted r.old.now r.new.now

-- whether a mention has a name that can change; an empty key has none, nor has a number that isn't a key
abbrev pub is_named : List ℕ → Mention → Bool
is_named text m =
    let name = part m.from m.to text in
    not (length name == 0) && (is_key m.role || is_name name)

-- the edits that give the name of a mention in a document a new name
abbrev pub renamed_of : List (List ℕ × List ℕ) → List Document → Counting → Document → Option Mention → Option (List ℕ) →
    Result Data RpcError
renamed_of files docs c d m None = Err InvalidParams
renamed_of files docs c d None (Some new) = Ok null
renamed_of files docs c d (Some m) (Some new) =
    if is_named d.text m then renamed_if_free files docs c (wanted_of m.role) (part m.from m.to d.text) new else Ok null

-- the edits that give the key or the macro at a position of a document a new name
abbrev pub rename_at : List (List ℕ × List ℕ) → List Document → Counting → Document → Position → Option (List ℕ) →
    Result Data RpcError
rename_at files docs c d at new = renamed_of files docs c d (mention_at d at) new

-- the range of the name of what is looked for, if it can change
abbrev pub range_if_defined : List (List ℕ × List ℕ) → List Document → Counting → Document → Mention → Result Data RpcError
range_if_defined files docs c d m =
    if is_defined files docs c (wanted_of m.role) (part m.from m.to d.text) then Ok (range_of d.counting d.text m.from m.to)
    else Err UndefinedMacro

-- the range of a mention, if there is one
abbrev pub mention_range : List (List ℕ × List ℕ) → List Document → Counting → Document → Option Mention → Result Data RpcError
mention_range files docs c d None = Ok null
mention_range files docs c d (Some m) = if is_named d.text m then range_if_defined files docs c d m else Ok null

-- the range of the name at a position of a document of at most 1 GiB
abbrev pub name_range_at : List (List ℕ × List ℕ) → List Document → Counting → Document → Position → Result Data RpcError
name_range_at files docs c d at =
    if nat_lt 1073741824 (length d.text) then Ok null else mention_range files docs c d (mention_at d at)
