-- What the desk says has no floats, and its notes are no answers.
use Rattle.std.proofs.Common.{◌≡◌, ℕ, codes, List, [], ◌∷◌, ◌++◌, map, length, refl, sym, subst, Bool, true, false, ◌||◌, Option, Some, None, Result, Ok, inl, inr}
use Rattle.std.specs.Prelude.{not, nat_lt, bytes_eq}
use Rattle.std.specs.List.{AllByRecursion}
use Rattle.serde_json.specs.Written.{has_float}
use Rattle.serde_json.specs.Data.{Data, null}
use Rattle.serde_json.specs.declared.value.Value.{Value}
use Rattle.bt_positions.specs.declared.indexed_text.Position.{Position}
use Rattle.bt_rpc.specs.declared.answers.RpcError.{RpcError}
use Rattle.bt_talk.specs.Handled.{HasNoFloat, IsNote}
use Rattle.bt_talk.specs.Replies.{outcome_of, IsPlain}
use Rattle.bt_documents.specs.declared.document.Document.{Document}
use Rattle.bt_lsp.specs.declared.methods.Notice.{Notice}
use Rattle.bt_lsp.specs.declared.methods.Notice.TheVariants.{Opened, Changed, Closed, Saved, Exit, Other}
use Rattle.bt_lsp.specs.declared.methods.Request.{Request}
use Rattle.bt_lsp.specs.declared.methods.Request.TheVariants.{Initialize, Shutdown, AtCursor, OfDocument, OfPaper, OfRun, Unknown}
use Rattle.bt_lsp.specs.declared.methods.CursorQuery.{CursorQuery}
use Rattle.bt_lsp.specs.declared.methods.CursorQuery.TheVariants.{Hover, Definition, References, Rename, NameRange, Completion}
use Rattle.bt_lsp.specs.declared.methods.DocumentQuery.{DocumentQuery}
use Rattle.bt_lsp.specs.declared.methods.DocumentQuery.TheVariants.{Outline, Folds, Format, Actions, Links}
use Rattle.bt_lsp.specs.declared.methods.PaperQuery.{PaperQuery}
use Rattle.bt_lsp.specs.declared.methods.PaperQuery.TheVariants.{Bibliography, Log, Status, Symbols}
use Rattle.bt_lsp.specs.declared.methods.RunQuery.{RunQuery}
use Rattle.bt_lsp.specs.declared.methods.RunQuery.TheVariants.{Lenses}
use Rattle.bt_lsp.specs.declared.methods.RunQuery.TheVariants as queries
use Rattle.bt_lsp.specs.declared.found.Found.{Found}
use Rattle.bt_remarks.specs.declared.lens.Origin.{Origin}
use Rattle.bt_answers.specs.Lensing.{lens_value}
use Rattle.bt_lsp.specs.declared.server.Phase.{Phase}
use Rattle.bt_lsp.specs.declared.server.Phase.TheVariants.{New, Ready, ShutDown}
use Rattle.bt_lsp.specs.declared.server.Server.{Server}
use Rattle.bt_places.specs.Shown.{Shown}
use Rattle.bt_places.specs.Words.{counting_of}
use Rattle.bt_places.specs.Shapes.{shown_text, shown_status}
use Rattle.bt_lsp.specs.declared.announcing.Announced.{Announced}
use Rattle.bt_lsp.specs.Announcing.{with_announced}
use Rattle.bt_lsp.specs.Progress.{progress, ending}
use Rattle.bt_rpc.specs.Messages.{notification}
use Rattle.bt_answers.specs.Hints.{with_hints}
use Rattle.bt_answers.specs.Related.{diagnostics_in}
use Rattle.bt_answers.specs.Faults.{is_some_text, with_faults}
use Rattle.bt_lsp.specs.Complaints.{complaints, complaint, with_complaints}
use Rattle.bt_lsp.specs.News.{news, all_published, run_name, shown_of, is_run_style, fault_for, style_values, values_of, lost_words, behind_words, warned, warnings, cleared, cleared_at}
use Rattle.bt_places.specs.Parameters.{wants_declarations, document_of, place_of, text_at, position_at}
use Rattle.bt_places.specs.Entries.{is_style}
use Rattle.bt_places.specs.Mentioning.{mention_at}
use Rattle.bt_answers.specs.References.{macro_at}
use Rattle.bt_answers.specs.Renaming.{mention_range}
use Rattle.bt_shapes.proofs.PlainLists.{all_mapped}
use Rattle.bt_places.proofs.PlainLists.{IsPlainData, items_plain, all_both, either_plain, either_outcome}
use Rattle.bt_answers.proofs.FeaturePlain.{macro_plain, references_plain, renamed_plain, range_plain, folds_plain, found_symbols_plain, links_plain, format_edits_plain, hints_plain, faults_plain}
use Rattle.bt_writing.proofs.FeaturePlain.{actions_plain}
use Rattle.bt_places.proofs.CompletingPlain.{one_plain}
use Rattle.bt_writing.proofs.CompletingPlain.{completion_plain}
use Rattle.bt_lsp.specs.Answering.{text_answer_at, answer_at, text_answer_of, answer_of, paper_answer, run_answer, at_place, at_document, answer_to}
use Rattle.bt_lsp.specs.Styles.{style_answer_at, style_answer_of, with_style_hints}
use Rattle.bt_lsp.proofs.PlacingPlain.{messages_plain}
use Rattle.bt_lsp.proofs.StylePlain.{style_at_plain, style_of_plain, style_hints_plain}
use Rattle.bt_answers.specs.Keys.{role_of, key_spans}
use Rattle.bt_lsp.specs.Placing.{found_in}
use Rattle.bt_style_text.specs.declared.words.Word.{Word}
use Rattle.bt_lsp.specs.Desk.{IsOutcome, IsFoundOutcome, Tells, Carried}
use Rattle.bt_places.proofs.PlainLemmas.{publication_note, one_note, no_note, plain_from}
use Rattle.bt_answers.proofs.PlainLemmas.{hovered_plain, diagnostics_in_plain, symbols_plain, origin_plain}
use Rattle.bt_writing.proofs.PlainLemmas.{definition_plain}

values_plain : {P : Type 0} (shown : P → Shown) (s : Server P) (fault : Option Word) (d : Document) → AllByRecursion HasNoFloat (values_of shown s fault d)
values_plain shown s fault d =
    let run = shown s.paper in
    either_plain (is_run_style d) (style_values shown s fault d) (diagnostics_in s.shows_related d (shown_of run d))
    (messages_plain s.shows_related d fault (found_in (run_name run d) d (role_of d.name) (key_spans run d)) s.step_words [] run.messages tt) (diagnostics_in_plain s.shows_related d (shown_of run d))

published_notes : {P : Type 0} (shown : P → Shown) (s : Server P) (docs : List Document) → AllByRecursion IsNote (all_published shown s docs)
published_notes shown s [] = tt
published_notes shown s (d ∷ ds) =
    let run = shown s.paper in
    let fault = fault_for run d in
    let found = values_of shown s fault d in
    let faulty = with_faults run d found in
    let hinted = with_hints run.files d faulty in (
      publication_note d.name (with_style_hints s.checked fault d hinted)
          (style_hints_plain s.checked fault d hinted (hints_plain run.files d faulty (faults_plain run d found (values_plain shown s fault d)))),
      published_notes shown s ds,
    )

warned_notes : (words : List ℕ) (is_due : Bool) → AllByRecursion IsNote (warned words is_due)
warned_notes words true = ((refl, refl), tt)
warned_notes words false = tt

warnings_notes : (lost behind : Bool) → AllByRecursion IsNote (warnings lost behind)
warnings_notes lost behind = all_both IsNote (warned lost_words lost) _ (warned_notes lost_words lost) (warned_notes behind_words behind)

cleared_at_notes : (uri : Option (List ℕ)) → AllByRecursion IsNote (cleared_at uri)
cleared_at_notes None = tt
cleared_at_notes (Some uri) = (publication_note uri [] tt, tt)

cleared_notes : (notice : Notice) (m : Data) → AllByRecursion IsNote (cleared notice m)
cleared_notes Opened m = tt
cleared_notes Changed m = tt
cleared_notes Closed m = cleared_at_notes _
cleared_notes Saved m = tt
cleared_notes Exit m = tt
cleared_notes Other m = tt

announced_notes : (a : Announced) (shown : Shown) (list : List Data) → AllByRecursion IsNote list → AllByRecursion IsNote (with_announced a shown list)
announced_notes a shown list p =
    one_note a.status (notification (codes "bibtex/status") (shown_status shown.status)) _ (refl, refl)
    (one_note a.log (notification (codes "bibtex/log") (shown_text shown.log shown.status)) _ (refl, refl)
    (one_note a.bibliography (notification (codes "bibtex/bbl") (shown_text shown.bibliography shown.status)) list (refl, refl) p))

complaints_notes : (said words : List ℕ) (list : List Data) → AllByRecursion IsNote list → AllByRecursion IsNote (with_complaints said words list)
complaints_notes said words list p = no_note (not (is_some_text words) || bytes_eq words said) (complaint words) list (refl, refl) p

told_notes : {P : Type 0} (shown : P → Shown) (s : Server P) (said words : List ℕ) (lost behind : Bool) (notice : Notice) (m : Data) →
    AllByRecursion IsNote (news shown s (with_complaints said words (warnings lost behind ++ cleared notice m)))
told_notes shown s said words lost behind notice m =
    let first = warnings lost behind ++ cleared notice m in
    announced_notes s.announced (shown s.paper) (with_complaints said words first ++ all_published shown s s.documents)
    (all_both IsNote (with_complaints said words first) _
    (complaints_notes said words first
    (all_both IsNote (warnings lost behind) _ (warnings_notes lost behind) (cleared_notes notice m))) (published_notes shown s s.documents))

tells_notes : {P : Type 0} (shown : P → Shown) (d : Server P) (behind : Bool) (notice : Notice) (m : Data) (told : List Data) (e : Server P) →
    Tells shown d behind notice m told e → AllByRecursion IsNote told
tells_notes shown d behind notice m told e (inl h) =
    let words = complaints (shown e.paper) e.documents in
    subst (AllByRecursion IsNote) (sym h.0)
    (one_note d.in_progress (progress ending) (news shown e (with_complaints d.said words (warnings d.lost behind ++ cleared notice m))) (refl, refl)
    (told_notes shown e d.said words d.lost behind notice m))
tells_notes shown d behind notice m told e (inr h) = subst (AllByRecursion IsNote) (sym h.0) tt

-- what is said to a notification that the desk takes
pub carried_notes : {P : Type 0} (text : P → List ℕ → Option (List ℕ)) (shown : P → Shown) (d : Server P) (notice : Notice) (m : Data) (told : List Data) (e : Server P) →
    Carried text shown d notice m told e → AllByRecursion IsNote told
carried_notes text shown d notice m told e h = tells_notes shown h.next h.behind notice m told e h.says

text_at_plain : {P : Type 0} (shown : P → Shown) (s : Server P) (query : CursorQuery) (d : Document) (at : Position) (m : Data) → IsPlainData (text_answer_at shown s query d at m)
text_at_plain shown s Hover d at m = hovered_plain (shown s.paper) s.hovers_plain d at
text_at_plain shown s Definition d at m =
    let files = (shown s.paper).files in
    let c = counting_of s.counts_bytes in
    definition_plain files s.documents c d at (macro_at files s.documents c d at) (macro_plain files s.documents c d (mention_at d at))
text_at_plain shown s References d at m =
    references_plain (shown s.paper).files s.documents (counting_of s.counts_bytes) d (wants_declarations m) (mention_at d at)
text_at_plain shown s Rename d at m =
    renamed_plain (shown s.paper).files s.documents (counting_of s.counts_bytes) d (mention_at d at) (text_at (codes "/params/newName") m)
text_at_plain shown s NameRange d at m =
    let files = (shown s.paper).files in
    let c = counting_of s.counts_bytes in
    either_outcome (nat_lt 1073741824 (length d.text)) (Ok null) (mention_range files s.documents c d (mention_at d at)) refl (range_plain files s.documents c d (mention_at d at))
text_at_plain shown s Completion d at m = completion_plain (shown s.paper).files d at

at_plain : {P : Type 0} (shown : P → Shown) (found : Found) (s : Server P) (query : CursorQuery) (d : Document) (at : Position) (m : Data) → IsPlainData (answer_at shown found s query d at m)
at_plain shown found s query d at m =
    either_outcome (is_style d.name) (style_answer_at found s query d at m) (text_answer_at shown s query d at m)
    (style_at_plain found s query d at m) (text_at_plain shown s query d at m)

place_plain : {P : Type 0} (shown : P → Shown) (found : Found) (s : Server P) (query : CursorQuery) (m : Data) (place : Option (Document × Position)) → IsPlainData (at_place shown found s query m place)
place_plain shown found s query m None = tt
place_plain shown found s query m (Some place) = at_plain shown found s query place.0 place.1 m

text_of_plain : {P : Type 0} (shown : P → Shown) (s : Server P) (query : DocumentQuery) (d : Document) (m : Data) → has_float (text_answer_of shown s query d m) ≡ false
text_of_plain shown s Outline d m = symbols_plain d
text_of_plain shown s Folds d m = folds_plain d
text_of_plain shown s Format d m = format_edits_plain d m
text_of_plain shown s Links d m = links_plain (shown s.paper).files d
text_of_plain shown s Actions d m = actions_plain d (position_at (codes "/params/range/start/line") (codes "/params/range/start/character") m)

of_plain : {P : Type 0} (shown : P → Shown) (s : Server P) (query : DocumentQuery) (d : Document) (m : Data) → has_float (answer_of shown s query d m) ≡ false
of_plain shown s query d m =
    one_plain (is_style d.name) (style_answer_of s query d m) (text_answer_of shown s query d m)
    (style_of_plain s query d m) (text_of_plain shown s query d m)

document_plain : {P : Type 0} (shown : P → Shown) (s : Server P) (query : DocumentQuery) (m : Data) (d : Option Document) → IsPlainData (at_document shown s query m d)
document_plain shown s query m None = tt
document_plain shown s query m (Some d) = of_plain shown s query d m

paper_plain : {P : Type 0} (shown : P → Shown) (s : Server P) (query : PaperQuery) (m : Data) → has_float (paper_answer shown s query m) ≡ false
paper_plain shown s Bibliography m = refl
paper_plain shown s Log m = refl
paper_plain shown s Status m = refl
paper_plain shown s Symbols m = found_symbols_plain (shown s.paper).files s.documents (counting_of s.counts_bytes) m

run_plain : (found : Found) (query : RunQuery) → has_float (run_answer found query) ≡ false
run_plain found Lenses = items_plain (map lens_value found.lenses) (all_mapped lens_value (λ lens. refl) found.lenses)
run_plain found queries.Origin = origin_plain found.origin

-- the outcome of a request that changes nothing
answer_plain : {P : Type 0} (shown : P → Shown) (found : Found) (s : Server P) (m : Data) (request : Request) → IsPlainData (answer_to shown found s m request)
answer_plain shown found s m Initialize = tt
answer_plain shown found s m Shutdown = tt
answer_plain shown found s m (AtCursor query) = place_plain shown found s query m (place_of s.documents m)
answer_plain shown found s m (OfDocument query) = document_plain shown s query m (document_of s.documents m)
answer_plain shown found s m (OfPaper query) = paper_plain shown s query m
answer_plain shown found s m (OfRun query) = run_plain found query
answer_plain shown found s m Unknown = tt

-- the outcome of a request
pub outcome_plain : {P : Type 0} (m : Data) (query : Request → Result Data RpcError) (phase : Phase) (request : Request) (d e : Server P) (o : Result Value RpcError) →
    ((r : Request) → IsPlainData (query r)) → IsOutcome m query phase request d (outcome_of o) e → IsPlain o
outcome_plain m query New Initialize d e o p h = plain_from _ o h.answer refl
outcome_plain m query New Shutdown d e o p h = plain_from _ o h.0 tt
outcome_plain m query New (AtCursor q) d e o p h = plain_from _ o h.0 tt
outcome_plain m query New (OfDocument q) d e o p h = plain_from _ o h.0 tt
outcome_plain m query New (OfPaper q) d e o p h = plain_from _ o h.0 tt
outcome_plain m query New (OfRun q) d e o p h = plain_from _ o h.0 tt
outcome_plain m query New Unknown d e o p h = plain_from _ o h.0 tt
outcome_plain m query ShutDown request d e o p h = plain_from _ o h.0 tt
outcome_plain m query Ready Shutdown d e o p h = plain_from _ o h.0 refl
outcome_plain m query Ready Initialize d e o p h = plain_from _ o h.0 (p Initialize)
outcome_plain m query Ready (AtCursor q) d e o p h = plain_from _ o h.0 (p (AtCursor q))
outcome_plain m query Ready (OfDocument q) d e o p h = plain_from _ o h.0 (p (OfDocument q))
outcome_plain m query Ready (OfPaper q) d e o p h = plain_from _ o h.0 (p (OfPaper q))
outcome_plain m query Ready (OfRun q) d e o p h = plain_from _ o h.0 (p (OfRun q))
outcome_plain m query Ready Unknown d e o p h = plain_from _ o h.0 (p Unknown)

-- the same, by what is found out for it
pub by_found_plain : {P : Type 0} (shown : P → Shown) (request : Request) (m : Data) (d e : Server P) (o : Result Value RpcError) →
    IsFoundOutcome shown d request m (outcome_of o) e → IsPlain o
by_found_plain shown request m d e o h =
    outcome_plain m (answer_to shown h.0 d m) d.phase request d e o (answer_plain shown h.0 d m) h.1
