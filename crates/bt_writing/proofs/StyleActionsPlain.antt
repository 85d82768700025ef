-- Actions in a style have no floats.
use Rattle.std.proofs.Common.{◌≡◌, ℕ, List, [], ◌∷◌, ◌++◌, length, refl, false, Option, Some, None}
use Rattle.std.specs.Prelude.{nat_lt, ◌||◌, ◌==◌, not}
use Rattle.std.specs.List.{AllByRecursion, fold}
use Rattle.serde_json.specs.Written.{has_float}
use Rattle.serde_json.specs.Data.{Data, array}
use Rattle.serde_json.specs.View.{items_of}
use Rattle.bt_positions.specs.Positions.{offset_of}
use Rattle.bt_positions.specs.declared.indexed_text.Position.{Position}
use Rattle.bt_documents.specs.declared.document.Document.{Document}
use Rattle.bt_talk.specs.Handled.{HasNoFloat}
use Rattle.bt_remarks.specs.declared.finding.Finding.{Finding}
use Rattle.bt_remarks.specs.declared.checked.Checked.{Checked}
use Rattle.bt_remarks.specs.Checked.{found_for}
use Rattle.bt_writing.specs.StyleActions.{first_database, touches_finding, trial, with_trial, with_trials_if_any, actions_between, actions_at}
use Rattle.bt_writing.specs.Spellings.{touches, likely_for, spelling, with_likely, with_spelling, spellings_in, spellings}
use Rattle.bt_style_text.specs.declared.marks.Mark.{Mark}
use Rattle.bt_style_text.specs.Marks.{marks_of}
use Rattle.bt_style_text.specs.Hinting.{declarations, unknown}
use Rattle.bt_places.specs.Visiting.{is_any}
use Rattle.bt_places.proofs.PlainLists.{items_plain, all_both, some_or_null, either_plain, fold_plain}

with_trial_plain : (database : Document) (from to : ℕ) (list : List Data) (f : Finding) → AllByRecursion HasNoFloat list → AllByRecursion HasNoFloat (with_trial database from to list f)
with_trial_plain database from to list f p =
    either_plain (not (touches_finding from to f) || length f.entry == 0) list (list ++ trial database f.entry ∷ []) p
    (all_both HasNoFloat list (trial database f.entry ∷ []) p (refl, tt))

with_trials_plain : (found : List Finding) (from to : ℕ) (database : Option Document) (list : List Data) → AllByRecursion HasNoFloat list →
    AllByRecursion HasNoFloat (with_trials_if_any found from to database list)
with_trials_plain found from to None list p = p
with_trials_plain found from to (Some database) list p =
    either_plain (nat_lt 1073741824 (length database.text)) list (fold (with_trial database from to) list found) p
    (fold_plain (with_trial database from to) (with_trial_plain database from to) found list p)

with_spelling_plain : (d : Document) (declared : List Mark) (from to : ℕ) (list : List Data) (mark : Mark) → AllByRecursion HasNoFloat list →
    AllByRecursion HasNoFloat (with_spelling d declared from to list mark)
with_spelling_plain d declared from to list mark p =
    let likely = likely_for d declared mark in
    either_plain (touches from to mark) (with_likely d mark list likely) list
    (either_plain (length likely == 0) list (list ++ spelling d mark likely ∷ []) p (all_both HasNoFloat list (spelling d mark likely ∷ []) p (refl, tt))) p

spellings_plain : (d : Document) (from to : ℕ) → AllByRecursion HasNoFloat (spellings d from to)
spellings_plain d from to =
    let marks = marks_of d.text in
    let declared = declarations marks in
    either_plain (nat_lt 1073741824 (length d.text)) [] (spellings_in d marks from to) tt
    (fold_plain (with_spelling d declared from to) (with_spelling_plain d declared from to) (unknown d.text marks declared) [] tt)

pub actions_plain : (checked : List Checked) (docs : List Document) (d : Document) (from to : Option Position) → has_float (actions_at checked docs d from to) ≡ false
actions_plain checked docs d (Some from) (Some to) =
    let start = offset_of d.counting from d.text in
    let end = offset_of d.counting to d.text in
    let list = actions_between checked docs d start end in
    some_or_null (is_any list) (array (items_of list))
    (items_plain list (with_trials_plain (found_for d.name d.text checked) start end (first_database docs) (spellings d start end) (spellings_plain d start end)))
actions_plain checked docs d (Some from) None = refl
actions_plain checked docs d None to = refl
