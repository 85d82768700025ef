-- Answers about styles have no floats.
use Rattle.std.proofs.Common.{◌≡◌, ℕ, List, ◌++◌, map, length, refl, false, Option, Some, None, Result, Ok, Err}
use Rattle.std.specs.Prelude.{codes, nat_lt, ◌||◌, not}
use Rattle.std.specs.List.{AllByRecursion}
use Rattle.serde_json.specs.Written.{has_float}
use Rattle.serde_json.specs.Data.{Data, null}
use Rattle.bt_positions.specs.declared.counting.Counting.{Counting}
use Rattle.bt_positions.specs.declared.indexed_text.Position.{Position}
use Rattle.bt_documents.specs.declared.document.Document.{Document}
use Rattle.bt_talk.specs.Handled.{HasNoFloat}
use Rattle.bt_shapes.proofs.PlainLists.{all_both}
use Rattle.bt_style_answers.specs.Hinting.{hints_in}
use Rattle.bt_style_text.specs.declared.words.Word.{Word}
use Rattle.bt_style_text.specs.declared.renaming.RenameRefusal.{RenameRefusal}
use Rattle.bt_style_answers.specs.Renaming.{rename_at, renamed_range_at}
use Rattle.bt_style_answers.proofs.PlainLemmas.{OutcomeIsPlain, hints_plain, hover_plain, definition_plain, references_plain, rename_plain, renamed_range_plain, completion_plain, symbols_plain, folds_plain}
use Rattle.bt_remarks.specs.declared.checked.Checked.{Checked}
use Rattle.bt_remarks.specs.Checked.{found_for}
use Rattle.bt_remarks.specs.Values.{finding}
use Rattle.bt_remarks.proofs.PlainLemmas.{findings_plain}
use Rattle.bt_lsp.specs.declared.found.Found.{Found}
use Rattle.bt_lsp.specs.declared.server.Server.{Server}
use Rattle.bt_lsp.specs.declared.methods.CursorQuery.{CursorQuery}
use Rattle.bt_lsp.specs.declared.methods.CursorQuery.TheVariants.{Hover, Definition, References, Rename, NameRange, Completion}
use Rattle.bt_lsp.specs.declared.methods.DocumentQuery.{DocumentQuery}
use Rattle.bt_lsp.specs.declared.methods.DocumentQuery.TheVariants.{Outline, Folds, Format, Actions, Links}
use Rattle.bt_places.specs.Parameters.{text_at, wants_declarations, position_at}
use Rattle.bt_lsp.specs.Styles.{outcome_for, rename_outcome, shown_answer_at, shown_answer_of, style_answer_at, style_answer_of, with_style_hints}
use Rattle.bt_places.specs.Entries.{is_style}
use Rattle.bt_places.proofs.PlainLists.{IsPlainData, either_outcome, none_or, either_plain}
use Rattle.bt_writing.proofs.StyleActionsPlain.{actions_plain}

outcome_for_plain : (r : Result Data RenameRefusal) → OutcomeIsPlain r → IsPlainData (outcome_for r)
outcome_for_plain (Ok d) p = p
outcome_for_plain (Err why) p = tt

renamed_plain : (c : Counting) (uri words : List ℕ) (at : Position) (new : Option (List ℕ)) → IsPlainData (rename_outcome c uri words at new)
renamed_plain c uri words at None = tt
renamed_plain c uri words at (Some new) = outcome_for_plain (rename_at c uri words at new) (rename_plain c uri words at new)

shown_answer_at_plain : {P : Type 0} (found : Found) (s : Server P) (query : CursorQuery) (c : Counting) (uri words : List ℕ) (at : Position) (m : Data) → IsPlainData (shown_answer_at found s query c uri words at m)
shown_answer_at_plain found s Hover c uri words at m = hover_plain s.hovers_plain c words at found.notes
shown_answer_at_plain found s Definition c uri words at m = definition_plain c uri words at
shown_answer_at_plain found s References c uri words at m = references_plain c uri words at (wants_declarations m)
shown_answer_at_plain found s Rename c uri words at m = renamed_plain c uri words at (text_at (codes "/params/newName") m)
shown_answer_at_plain found s NameRange c uri words at m = outcome_for_plain (renamed_range_at c words at) (renamed_range_plain c words at)
shown_answer_at_plain found s Completion c uri words at m = completion_plain c words at

pub style_at_plain : {P : Type 0} (found : Found) (s : Server P) (query : CursorQuery) (d : Document) (at : Position) (m : Data) → IsPlainData (style_answer_at found s query d at m)
style_at_plain found s query d at m =
    either_outcome (nat_lt 1073741824 (length d.text)) (Ok null) (shown_answer_at found s query d.counting d.name d.text at m) refl
    (shown_answer_at_plain found s query d.counting d.name d.text at m)

shown_answer_of_plain : {P : Type 0} (s : Server P) (query : DocumentQuery) (d : Document) (m : Data) → has_float (shown_answer_of s query d m) ≡ false
shown_answer_of_plain s Outline d m = symbols_plain d.counting d.text
shown_answer_of_plain s Folds d m = folds_plain d.counting d.text
shown_answer_of_plain s Format d m = refl
shown_answer_of_plain s Actions d m =
    actions_plain s.checked s.documents d (position_at (codes "/params/range/start/line") (codes "/params/range/start/character") m)
    (position_at (codes "/params/range/end/line") (codes "/params/range/end/character") m)
shown_answer_of_plain s Links d m = refl

pub style_of_plain : {P : Type 0} (s : Server P) (query : DocumentQuery) (d : Document) (m : Data) → has_float (style_answer_of s query d m) ≡ false
style_of_plain s query d m =
    none_or (nat_lt 1073741824 (length d.text)) (shown_answer_of s query d m) (shown_answer_of_plain s query d m)

pub style_hints_plain : (checked : List Checked) (fault : Option Word) (d : Document) (list : List Data) → AllByRecursion HasNoFloat list → AllByRecursion HasNoFloat (with_style_hints checked fault d list)
style_hints_plain checked fault d list p =
    let found = found_for d.name d.text checked in
    let hinted = list ++ hints_in d.counting fault d.text in
    either_plain (not (is_style d.name) || nat_lt 262144 (length d.text)) list (hinted ++ map (finding d.counting d.name d.text) found) p
    (all_both HasNoFloat hinted _ (all_both HasNoFloat list (hints_in d.counting fault d.text) p (hints_plain d.counting fault d.text))
    (findings_plain d.counting d.name d.text found))
