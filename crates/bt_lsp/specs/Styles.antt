-- Answers about documents that are styles.
use Rattle.std.specs.Prelude.{ℕ, nat_lt, ◌||◌, not, if◌then◌else◌, List, ◌++◌, map, length, codes, Option, Some, None, Result, Ok, Err}
use Rattle.serde_json.specs.Data.{Data, null}
use Rattle.bt_positions.specs.declared.counting.Counting.{Counting}
use Rattle.bt_positions.specs.declared.indexed_text.Position.{Position}
use Rattle.bt_documents.specs.declared.document.Document.{Document}
use Rattle.bt_rpc.specs.declared.answers.RpcError.{RpcError}
use Rattle.bt_rpc.specs.declared.answers.RpcError.TheVariants.{InvalidParams, BadName, TakenName, UndeclaredName}
use Rattle.bt_style_text.specs.declared.words.Word.{Word}
use Rattle.bt_style_text.specs.declared.renaming.RenameRefusal.{RenameRefusal}
use Rattle.bt_style_text.specs.declared.renaming.RenameRefusal.TheVariants.{NotDeclared, NoName, Taken}
use Rattle.bt_style_answers.specs.Hovering.{hover_at}
use Rattle.bt_style_answers.specs.References.{definition_at, references_at}
use Rattle.bt_style_answers.specs.Renaming.{rename_at, renamed_range_at}
use Rattle.bt_style_answers.specs.Completion.{completion_at}
use Rattle.bt_style_answers.specs.Outline.{symbols_in}
use Rattle.bt_style_answers.specs.Folding.{folds_in}
use Rattle.bt_style_answers.specs.Hinting.{hints_in}
use Rattle.bt_remarks.specs.declared.checked.Checked.{Checked}
use Rattle.bt_remarks.specs.Checked.{found_for}
use Rattle.bt_remarks.specs.Values.{finding}
use Rattle.bt_lsp.specs.declared.found.Found.{Found}
use Rattle.bt_lsp.specs.declared.server.Server.{Server}
use Rattle.bt_lsp.specs.declared.methods.CursorQuery.{CursorQuery}
use Rattle.bt_lsp.specs.declared.methods.CursorQuery.TheVariants.{Hover, Definition, References, Rename, NameRange, Completion}
use Rattle.bt_lsp.specs.declared.methods.DocumentQuery.{DocumentQuery}
use Rattle.bt_lsp.specs.declared.methods.DocumentQuery.TheVariants.{Outline, Folds, Format, Actions, Links}
use Rattle.bt_places.specs.Entries.{is_style}
use Rattle.bt_places.specs.Parameters.{text_at, wants_declarations}
use Rattle.bt_writing.specs.StyleActions.{actions_in_style}

-- why a request has no result
abbrev pub error_of : RenameRefusal → RpcError
error_of NotDeclared = UndeclaredName
error_of NoName = BadName
error_of Taken = TakenName

-- the outcome of a request that the style may refuse
abbrev pub outcome_for : Result Data RenameRefusal → Result Data RpcError
outcome_for (Ok d) = Ok d
outcome_for (Err why) = Err (error_of why)

-- the edits of a rename
abbrev pub rename_outcome : Counting → List ℕ → List ℕ → Position → Option (List ℕ) → Result Data RpcError
rename_outcome c uri words at None = Err InvalidParams
rename_outcome c uri words at (Some new) = outcome_for (rename_at c uri words at new)

-- the answer at a position of a style's text
abbrev pub shown_answer_at : {P : Type 0} → Found → Server P → CursorQuery → Counting → List ℕ → List ℕ → Position → Data →
    Result Data RpcError
shown_answer_at found s Hover c uri words at m = Ok (hover_at s.hovers_plain c words at found.notes)
shown_answer_at found s Definition c uri words at m = Ok (definition_at c uri words at)
shown_answer_at found s References c uri words at m = Ok (references_at c uri words at (wants_declarations m))
shown_answer_at found s Rename c uri words at m = rename_outcome c uri words at (text_at (codes "/params/newName") m)
shown_answer_at found s NameRange c uri words at m = outcome_for (renamed_range_at c words at)
shown_answer_at found s Completion c uri words at m = Ok (completion_at c words at)

-- the answer at a position of a style of at most 1 GiB
abbrev pub style_answer_at : {P : Type 0} → Found → Server P → CursorQuery → Document → Position → Data → Result Data RpcError
style_answer_at found s query d at m = if nat_lt 1073741824 (length d.text) then Ok null
    else shown_answer_at found s query d.counting d.name d.text at m

-- the answer for a style's text
abbrev pub shown_answer_of : {P : Type 0} → Server P → DocumentQuery → Document → Data → Data
shown_answer_of s Outline d m = symbols_in d.counting d.text
shown_answer_of s Folds d m = folds_in d.counting d.text
shown_answer_of s Format d m = null
shown_answer_of s Actions d m = actions_in_style s.checked s.documents d m
shown_answer_of s Links d m = null

-- the answer for a style of at most 1 GiB
abbrev pub style_answer_of : {P : Type 0} → Server P → DocumentQuery → Document → Data → Data
style_answer_of s query d m =
    if nat_lt 1073741824 (length d.text) then null else shown_answer_of s query d m

-- what was found in a document's present text, each finding as one diagnostic at its place, in order
abbrev pub findings_of : List Checked → Document → List Data
findings_of checked d = map (finding d.counting d.name d.text) (found_for d.name d.text checked)

-- a list with the hints for a document with a fault at this word, and with what was found in it, if it is a style of at most
-- 256 KiB
abbrev pub with_style_hints : List Checked → Option Word → Document → List Data → List Data
with_style_hints checked fault d list =
    if not (is_style d.name) || nat_lt 262144 (length d.text) then list
    else list ++ hints_in d.counting fault d.text ++ findings_of checked d
