-- The answers to requests that change nothing.
use Rattle.std.specs.Prelude.{ℕ, if◌then◌else◌, List, codes, Option, Some, None, Result, Ok, Err}
use Rattle.serde_json.specs.Data.{Data}
use Rattle.bt_positions.specs.declared.indexed_text.Position.{Position}
use Rattle.bt_documents.specs.declared.document.Document.{Document}
use Rattle.bt_rpc.specs.declared.answers.RpcError.{RpcError}
use Rattle.bt_rpc.specs.declared.answers.RpcError.TheVariants.{InvalidRequest, InvalidParams, MethodNotFound}
use Rattle.bt_lsp.specs.declared.methods.Request.{Request}
use Rattle.bt_lsp.specs.declared.methods.Request.TheVariants.{Initialize, Shutdown, AtCursor, OfDocument, OfPaper, OfRun, Unknown}
use Rattle.bt_lsp.specs.declared.methods.CursorQuery.{CursorQuery}
use Rattle.bt_lsp.specs.declared.methods.CursorQuery.TheVariants.{Hover, Definition, References, Rename, NameRange, Completion}
use Rattle.bt_lsp.specs.declared.methods.DocumentQuery.{DocumentQuery}
use Rattle.bt_lsp.specs.declared.methods.DocumentQuery.TheVariants.{Outline, Folds, Format, Actions, Links}
use Rattle.bt_lsp.specs.declared.methods.PaperQuery.{PaperQuery}
use Rattle.bt_lsp.specs.declared.methods.PaperQuery.TheVariants.{Bibliography, Log, Status, Symbols}
use Rattle.bt_lsp.specs.declared.methods.RunQuery.{RunQuery}
use Rattle.bt_lsp.specs.declared.methods.RunQuery.TheVariants.{Lenses, Origin}
use Rattle.bt_lsp.specs.declared.found.Found.{Found}
use Rattle.bt_lsp.specs.declared.server.Server.{Server}
use Rattle.bt_places.specs.Shown.{Shown}
use Rattle.bt_places.specs.Words.{counting_of}
use Rattle.bt_places.specs.Parameters.{wants_declarations, place_of, document_of, text_at}
use Rattle.bt_places.specs.Shapes.{shown_text, shown_status}
use Rattle.bt_answers.specs.Uncited.{hovered_at}
use Rattle.bt_answers.specs.References.{references_at}
use Rattle.bt_answers.specs.Renaming.{rename_at, name_range_at}
use Rattle.bt_writing.specs.Finding.{definition_at}
use Rattle.bt_writing.specs.Completing.{completion_at}
use Rattle.bt_answers.specs.Symbols.{symbols}
use Rattle.bt_answers.specs.Outline.{symbols_of}
use Rattle.bt_answers.specs.Folding.{folds_of}
use Rattle.bt_answers.specs.Formatting.{format_edits}
use Rattle.bt_writing.specs.Actions.{actions}
use Rattle.bt_places.specs.Entries.{is_style}
use Rattle.bt_answers.specs.Links.{links_of}
use Rattle.bt_lsp.specs.Styles.{style_answer_at, style_answer_of}
use Rattle.bt_answers.specs.Lensing.{lens_values, origin_value}

-- the outcome at a position of a document that is no style, with hovers as plain text if the editor takes nothing else
abbrev pub text_answer_at : {P : Type 0} → (P → Shown) → Server P → CursorQuery → Document → Position → Data → Result Data RpcError
text_answer_at shown s Hover d at m = Ok (hovered_at (shown s.paper) s.hovers_plain d at)
text_answer_at shown s Definition d at m =
    Ok (definition_at (shown s.paper).files s.documents (counting_of s.counts_bytes) d at)
text_answer_at shown s References d at m =
    Ok (references_at (shown s.paper).files s.documents (counting_of s.counts_bytes) d at (wants_declarations m))
text_answer_at shown s Rename d at m =
    rename_at (shown s.paper).files s.documents (counting_of s.counts_bytes) d at (text_at (codes "/params/newName") m)
text_answer_at shown s NameRange d at m =
    name_range_at (shown s.paper).files s.documents (counting_of s.counts_bytes) d at
text_answer_at shown s Completion d at m = Ok (completion_at (shown s.paper).files d at)

-- the outcome at a position of a document
abbrev pub answer_at : {P : Type 0} → (P → Shown) → Found → Server P → CursorQuery → Document → Position → Data → Result Data RpcError
answer_at shown found s query d at m =
    if is_style d.name then style_answer_at found s query d at m else text_answer_at shown s query d at m

-- the answer for a document that is no style
abbrev pub text_answer_of : {P : Type 0} → (P → Shown) → Server P → DocumentQuery → Document → Data → Data
text_answer_of shown s Outline d m = symbols_of d
text_answer_of shown s Folds d m = folds_of d
text_answer_of shown s Format d m = format_edits d m
text_answer_of shown s Actions d m = actions d m
text_answer_of shown s Links d m = links_of (shown s.paper).files d

-- the answer for a document
abbrev pub answer_of : {P : Type 0} → (P → Shown) → Server P → DocumentQuery → Document → Data → Data
answer_of shown s query d m =
    if is_style d.name then style_answer_of s query d m else text_answer_of shown s query d m

-- the lines of an entry if there is a key, else of the bibliography
abbrev pub lines_for : Shown → Option (List ℕ) → List ℕ
lines_for shown None = shown.bibliography
lines_for shown (Some key) = shown.entry_text key

-- the bibliography, or the lines of the entry of the message's key
abbrev pub bibliography_answer : Shown → Data → Data
bibliography_answer shown m = shown_text (lines_for shown (text_at (codes "/params/key") m)) shown.status

-- the answer for the paper
abbrev pub paper_answer : {P : Type 0} → (P → Shown) → Server P → PaperQuery → Data → Data
paper_answer shown s Bibliography m = bibliography_answer (shown s.paper) m
paper_answer shown s Log m = shown_text (shown s.paper).log (shown s.paper).status
paper_answer shown s Status m = shown_status (shown s.paper).status
paper_answer shown s Symbols m = symbols (shown s.paper).files s.documents (counting_of s.counts_bytes) m

-- the outcome at a place, if the message has one
abbrev pub at_place : {P : Type 0} → (P → Shown) → Found → Server P → CursorQuery → Data → Option (Document × Position) → Result Data RpcError
at_place shown found s query m None = Err InvalidParams
at_place shown found s query m (Some place) = answer_at shown found s query place.0 place.1 m

-- the answer for a document, if the message names one that is open
abbrev pub at_document : {P : Type 0} → (P → Shown) → Server P → DocumentQuery → Data → Option Document → Result Data RpcError
at_document shown s query m None = Err InvalidParams
at_document shown s query m (Some d) = Ok (answer_of shown s query d m)

-- the answer about the run, by what was found out for it
abbrev pub run_answer : Found → RunQuery → Data
run_answer found Lenses = lens_values found.lenses
run_answer found Origin = origin_value found.origin

-- the outcome of a request that changes nothing, by what was found out for it
abbrev pub answer_to : {P : Type 0} → (P → Shown) → Found → Server P → Data → Request → Result Data RpcError
answer_to shown found s m (AtCursor query) = at_place shown found s query m (place_of s.documents m)
answer_to shown found s m (OfDocument query) = at_document shown s query m (document_of s.documents m)
answer_to shown found s m (OfPaper query) = Ok (paper_answer shown s query m)
answer_to shown found s m (OfRun query) = Ok (run_answer found query)
answer_to shown found s m Initialize = Err InvalidRequest
answer_to shown found s m Shutdown = Err InvalidRequest
answer_to shown found s m Unknown = Err MethodNotFound
