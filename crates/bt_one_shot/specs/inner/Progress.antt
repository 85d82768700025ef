-- How the look-ups of a job go on.
use Rattle.std.specs.Prelude.{◌≡◌, ℕ, Bool, false, List, [], ◌++◌, length, map, None, Result, Ok, Err}
use Rattle.bibtex.specs.declared.edit.Refusal.{Refusal}
use Rattle.bibtex.specs.declared.state.State.{State}
use Rattle.bibtex.specs.Present.{no_texts}
use Rattle.bt_one_shot.specs.declared.folder.Found.{Found}
use Rattle.bt_one_shot.specs.Folders.{Seen, Finds, looked_up, LooksUp}
use Rattle.bt_streams.specs.Seen.{Sunk}
use Rattle.bt_one_shot.specs.Sinks.{Tells}
use Rattle.bt_one_shot.specs.Shots.{Ends}
use Rattle.bt_one_shot.specs.inner.Sinks.{GoesOn}
use Rattle.bibtex.specs.Applied.{state_or}
use Rattle.bt_one_shot.specs.JobFiles.{LookedUp, name_of, next, taken_found, after_files, refusal_line, refusal_lines, InOrder, all_looked_up}

-- What was found under a name is taken into a state, and the result says whether the state may have changed; or it is
-- refused.
abbrev pub TakesIn : State → State → List ℕ → Bool → Found → Result Bool Refusal → Type 0
TakesIn s s' name ran_out found (Ok new) = (taken_found s name ran_out found ≡ Ok s') × (new ≡ false → s' ≡ s)
TakesIn s s' name ran_out found (Err refusal) = (taken_found s name ran_out found ≡ Err refusal) × (s' ≡ s)

-- a file of this name was looked up
pub record LooksUpName (failures_before : ℕ) (s s' : State) (name : List ℕ) (old new : Seen) (err err' : Sunk) :
    Type 0 where
  pub found : Found
  pub ran_out : Bool
  pub finds : Finds old.held name found
  pub is_after : s' ≡ state_or s (taken_found s name ran_out found)
  pub looked_up : LooksUp old new 1 (looked_up name found)
  pub tells : GoesOn failures_before err err' (refusal_line name (taken_found s name ran_out found))

-- Files were looked up in order, starting from a state for which these names were looked up before.
pub record Goes (failures_before : ℕ) (s s' : State) (met met' : List (List ℕ)) (old new : Seen) (err err' : Sunk) :
    Type 0 where
  pub files : List LookedUp
  pub in_order : InOrder old.held s met files
  pub is_after : s' ≡ after_files s files
  pub are_met : met' ≡ met ++ map name_of files
  pub looked_up : LooksUp old new (length files) (all_looked_up files)
  pub tells : GoesOn failures_before err err' (refusal_lines s files)

-- Files of a job were looked up in order, and led to a state that wants no new one.
pub record LoadsAll (failures_before : ℕ) (root : List ℕ) (min : ℕ) (s : State) (old new : Seen) (err err' : Sunk) :
    Type 0 where
  pub met : List (List ℕ)
  pub goes : Goes failures_before (no_texts root min) s [] met old new err err'
  pub end : next s met ≡ None

-- Some of a job's files were looked up in order.
pub record LoadsSome (failures_before : ℕ) (root : List ℕ) (min : ℕ) (old new : Seen) (err err' : Sunk) : Type 0 where
  pub reached : State
  pub met : List (List ℕ)
  pub goes : Goes failures_before (no_texts root min) reached [] met old new err err'

-- A run ends with this state and this log, whatever text was reported since the sink's failures were counted.
abbrev pub EndsAfter : ℕ → State → List ℕ → Seen → Seen → Sunk → Sunk → Sunk → Sunk → ℕ → Type 0
EndsAfter failures_before s log old new out out' err err' exit = (first : Sunk) (text : List ℕ) →
    first.failures ≡ failures_before → Tells first err text →
    Ends s log old new out out' (λ more. Tells first err' (text ++ more)) exit
