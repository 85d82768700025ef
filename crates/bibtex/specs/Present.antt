-- What a session is about: the present texts by name, the root name, and min-crossrefs; and what that means.
use Rattle.std.specs.Prelude.{◌≡◌, ℕ, Bool, ◌&&◌, nat_le, length, List, [], ◌∷◌, ◌++◌, map, Option, Some, None, position, slice_set}
use Rattle.std.specs.List.{IsDistinct}
use Rattle.std.specs.Str.{bytes_eq}
use Rattle.bt_job.specs.declared.files.File.{File}
use Rattle.bt_job.specs.FileNames.{is_file_name}
use Rattle.bt_run.specs.declared.answers.Report.{Report}
use Rattle.bt_run.specs.declared.course.Step.{Step}
use Rattle.bt_run.specs.Meaning.{Meaning, meaning, trace}
use Rattle.bt_run.specs.Kept.{style_text, run_work, report_after}
use Rattle.bibtex.specs.declared.state.State.{State}

-- Each name stands once among the present texts.
abbrev pub EachOnce : List File → Type 0
EachOnce files = IsDistinct bytes_eq (map (λ (f : File). f.name) files)

-- the place of the file with this name
abbrev pub place_of_file : List ℕ → List File → Option ℕ
place_of_file name files = position (λ f. bytes_eq f.name name) files

-- the texts with this one, which replaces the text of its name, or comes last if the name is new
abbrev pub with_text : List ℕ → List ℕ → List File → List File
with_text name text files =
    let file : File = record { name = name; text = text } in
    elim (place_of_file name files) [ None ↦ files ++ file ∷ [] | Some n ↦ slice_set files n file ]

-- whether a name can be a root name: with .aux after it, it is a file's name
abbrev pub is_root_name : List ℕ → Bool
is_root_name root = is_file_name root && nat_le (length root) 60

-- the state of a session without files
abbrev pub no_texts : List ℕ → ℕ → State
no_texts root min = record { texts = []; root = root; min = min }

-- what a session in this state shows: what the state means from scratch
abbrev pub shown : State → Meaning
shown s = meaning s.texts s.root s.min

-- The work of an edit from one state to another: those steps of the new state's run that agree with no step of the old
-- state's run (same command, same key, equal values of everything that they can reach). If the texts of the two styles
-- differ, or one run has no style, it is all steps. Both runs are runs from scratch.
abbrev pub work : State → State → List Step
work old new = run_work (style_text old.texts old.root) (trace old.texts old.root old.min) new.texts new.root new.min

-- what an edit from one state to another reports: how many steps are its work, how many others there are, and what the
-- work costs
abbrev pub reported : State → State → Report
reported old new =
    report_after (style_text old.texts old.root) (trace old.texts old.root old.min) new.texts new.root new.min

-- The invariant of a session: each name has one text, and beside the state it keeps what the state means, the text of
-- its style, and the steps of its run.
pub record Keeps (s : State) (m : Meaning) (text : Option (List ℕ)) (steps : List Step) : Type 0 where
  pub once : EachOnce s.texts
  pub is_meaning : m ≡ shown s
  pub is_text : text ≡ style_text s.texts s.root
  pub are_steps : steps ≡ trace s.texts s.root s.min
