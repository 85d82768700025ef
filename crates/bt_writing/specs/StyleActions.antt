-- The actions in a style. One puts the entry that a finding proposes to try at the end of an open database.
use Rattle.std.specs.Prelude.{ℕ, ◌==◌, Bool, nat_le, nat_lt, ◌&&◌, ◌||◌, not, if◌then◌else◌, List, [], ◌∷◌, ◌++◌, length, codes, find, Option, Some, None}
use Rattle.std.specs.List.{fold}
use Rattle.bt_shapes.specs.Text.{as_utf8}
use Rattle.serde_json.specs.Data.{Data, null}
use Rattle.bt_positions.specs.Positions.{offset_of}
use Rattle.bt_positions.specs.declared.indexed_text.Position.{Position}
use Rattle.bt_documents.specs.declared.document.Document.{Document}
use Rattle.bt_remarks.specs.declared.finding.Finding.{Finding}
use Rattle.bt_remarks.specs.declared.checked.Checked.{Checked}
use Rattle.bt_remarks.specs.Checked.{found_for}
use Rattle.bt_writing.specs.Actions.{array_if_any}
use Rattle.bt_places.specs.Entries.{is_database}
use Rattle.bt_answers.specs.Links.{file_name}
use Rattle.bt_places.specs.Parameters.{position_at}
use Rattle.bt_writing.specs.QuickFix.{action, edit_at}
use Rattle.bt_writing.specs.Spellings.{spellings}

-- the first open database
abbrev pub first_database : List Document → Option Document
first_database docs = find (λ (d : Document). is_database d.name) docs

-- whether a finding is at a place between two others
abbrev pub touches_finding : ℕ → ℕ → Finding → Bool
touches_finding from to f = nat_le f.start to && nat_le from f.end

-- what the action is called
abbrev pub trial_title : Document → List ℕ
trial_title database = codes "Insert the entry to try into " ++ as_utf8 (file_name database.name)

-- an entry on lines of its own
abbrev pub on_lines : List ℕ → List ℕ
on_lines entry = codes "\n" ++ entry ++ codes "\n"

-- the action that puts an entry at a database's end
abbrev pub trial : Document → List ℕ → Data
trial database entry =
    action (trial_title database) (edit_at database (length database.text) (length database.text) (on_lines entry))

-- a list with the action for a finding between two places, if it has an entry
abbrev pub with_trial : Document → ℕ → ℕ → List Data → Finding → List Data
with_trial database from to list f =
    if not (touches_finding from to f) || length f.entry == 0 then list else list ++ trial database f.entry ∷ []

-- a list with the actions for findings between two places, if the database has at most 1 GiB
abbrev pub with_trials : List Finding → ℕ → ℕ → Document → List Data → List Data
with_trials found from to database list =
    if nat_lt 1073741824 (length database.text) then list else fold (with_trial database from to) list found

-- the same for the first open database, if there is one
abbrev pub with_trials_if_any : List Finding → ℕ → ℕ → Option Document → List Data → List Data
with_trials_if_any found from to None list = list
with_trials_if_any found from to (Some database) list = with_trials found from to database list

-- the actions between two places of a style's present text: likely names, then entries to try
abbrev pub actions_between : List Checked → List Document → Document → ℕ → ℕ → List Data
actions_between checked docs d from to =
    with_trials_if_any (found_for d.name d.text checked) from to (first_database docs) (spellings d from to)

-- the same between two positions, if there are both; null if there is no action
abbrev pub actions_at : List Checked → List Document → Document → Option Position → Option Position → Data
actions_at checked docs d (Some from) (Some to) =
    array_if_any (actions_between checked docs d (offset_of d.counting from d.text) (offset_of d.counting to d.text))
actions_at checked docs d (Some from) None = null
actions_at checked docs d None to = null

-- the actions for a style's present text in the range that a message has
abbrev pub actions_in_style : List Checked → List Document → Document → Data → Data
actions_in_style checked docs d m =
    actions_at checked docs d (position_at (codes "/params/range/start/line") (codes "/params/range/start/character") m)
    (position_at (codes "/params/range/end/line") (codes "/params/range/end/character") m)
