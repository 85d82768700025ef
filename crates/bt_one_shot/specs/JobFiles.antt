-- Which files of a job are looked up, in which order, and what becomes of each.
use Rattle.std.specs.Prelude.{◌≡◌, ℕ, Bool, not, List, [], ◌∷◌, ◌++◌, find, codes, decimal, bytes_eq, Option, Some, Result, Ok, Err}
use Rattle.std.specs.List.{list_any, flat_map}
use Rattle.bibtex.specs.declared.edit.Refusal.{Refusal}
use Rattle.bibtex.specs.declared.edit.Refusal.TheVariants.{OutOfMemory}
use Rattle.bibtex.specs.declared.state.State.{State}
use Rattle.bibtex.specs.Present.{shown}
use Rattle.bibtex.specs.Edit.{write}
use Rattle.bibtex.specs.Applied.{applied, code_of, state_or, unless_out_of_memory}
use Rattle.bt_one_shot.specs.declared.folder.Found.{Found}
use Rattle.bt_one_shot.specs.declared.folder.Found.TheVariants as found
use Rattle.bt_one_shot.specs.Folders.{Contents, Finds, looked_up}

-- a file that was looked up: its name, what was found, and whether there was no memory to take that in
pub record LookedUp : Type 0 where
  pub name : List ℕ
  pub found : Found
  pub ran_out : Bool

abbrev pub name_of : LookedUp → List ℕ
name_of r = r.name

-- the name that is looked up next: the first that is wanted and wasn't looked up yet
abbrev pub next : State → List (List ℕ) → Option (List ℕ)
next s met = find (λ name. not (list_any (bytes_eq name) met)) (shown s).wanted

-- the state after what was found under a name was taken in (a text is written under the name), or why it was refused
abbrev pub taken_found : State → List ℕ → Bool → Found → Result State Refusal
taken_found s name ran_out (found.Bytes text) = unless_out_of_memory ran_out (applied (write name text) s)
taken_found s name ran_out found.Missing = Ok s
taken_found s name ran_out found.NoRoom = Err OutOfMemory

-- the state after a file was taken in, or why it was refused
abbrev pub taken : State → LookedUp → Result State Refusal
taken s r = taken_found s r.name r.ran_out r.found

-- the state after a file; one that is refused counts as missing
abbrev pub after_file : State → LookedUp → State
after_file s r = state_or s (taken s r)

-- the state after files
abbrev pub after_files : State → List LookedUp → State
after_files s [] = s
after_files s (r ∷ rs) = after_files (after_file s r) rs

-- the line that says why a file is refused
abbrev pub refusal_line : List ℕ → Result State Refusal → List ℕ
refusal_line name (Ok s) = []
refusal_line name (Err refusal) =
    codes "bibtex: refused " ++ (decimal (code_of refusal) ++ (codes " " ++ (name ++ codes "\n")))

-- the lines that say which files are refused
abbrev pub refusal_lines : State → List LookedUp → List ℕ
refusal_lines s [] = []
refusal_lines s (r ∷ rs) = refusal_line r.name (taken s r) ++ refusal_lines (after_file s r) rs

-- Each of the files was the next one when it was looked up, and what was found is what the folder holds.
abbrev pub InOrder : Option Contents → State → List (List ℕ) → List LookedUp → Type 0
InOrder held s met [] = Unit {0}
InOrder held s met (r ∷ rs) =
    (next s met ≡ Some r.name) × Finds held r.name r.found × InOrder held (after_file s r) (met ++ r.name ∷ []) rs

-- the names that were looked up for files
abbrev pub all_looked_up : List LookedUp → List (List ℕ)
all_looked_up rs = flat_map (λ (r : LookedUp). looked_up r.name r.found) rs
