-- What the one-shot form does: what it looks up, what it leaves in the folder, what it prints and reports, and its exit
-- status.
use Rattle.std.specs.Prelude.{◌≡◌, ◌⊎◌, ℕ, Bool, true, false, nat_le, List, [], ◌∷◌, ◌++◌, length, map, None, codes, if◌then◌else◌}
use Rattle.bibtex.specs.declared.state.State.{State}
use Rattle.bibtex.specs.Present.{no_texts, shown}
use Rattle.bt_one_shot.specs.Folders.{Written, Seen, LooksUp, Writes, Fails}
use Rattle.bt_streams.specs.Seen.{Sunk}
use Rattle.bt_one_shot.specs.Sinks.{Tells}
use Rattle.bt_one_shot.specs.JobFiles.{LookedUp, name_of, next, after_files, refusal_lines, InOrder, all_looked_up}

-- What is looked up

-- Files of a job were looked up, one after another, starting from a session without files, by one read each. Each was
-- the first that was wanted then and not looked up yet.
pub record Loads (root : List ℕ) (min : ℕ) (old new : Seen) (files : List LookedUp) : Type 0 where
  pub in_order : InOrder old.held (no_texts root min) [] files
  pub looked_up : LooksUp old new (length files) (all_looked_up files)

-- the state after these files
abbrev pub loaded : List ℕ → ℕ → List LookedUp → State
loaded root min files = after_files (no_texts root min) files

-- the lines that say which of them are refused
abbrev pub refusals_told : List ℕ → ℕ → List LookedUp → List ℕ
refusals_told root min files = refusal_lines (no_texts root min) files

-- What is left

-- the exit status: 0 if there were at most warnings, else the run's status
abbrev pub exit_of : ℕ → ℕ
exit_of status = if nat_le status 1 then 0 else status

-- the bibliography
abbrev pub bbl_file : State → Written
bbl_file s = record { name = s.root ++ codes ".bbl"; bytes = (shown s).bbl }

-- the log
abbrev pub blg_file : State → Written
blg_file s = record { name = s.root ++ codes ".blg"; bytes = (shown s).blg }

-- the log that is printed: the terse log, if it is asked for
abbrev pub printed_log : Bool → State → List ℕ
printed_log true s = (shown s).terse
printed_log false s = (shown s).blg

-- the line that reports that a file can't be written
abbrev pub unwritten_line : List ℕ → List ℕ
unwritten_line name = codes "bibtex: can't write " ++ (name ++ codes "\n")

-- Both files are written, the bibliography first, then this log is printed, and nothing more is reported.
pub record Finishes (s : State) (log : List ℕ) (old new : Seen) (out out' : Sunk) (IsTold : List ℕ → Type 0)
    (exit : ℕ) : Type 0 where
  pub writes : Writes old new (bbl_file s ∷ blg_file s ∷ [])
  pub prints : Tells out out' log
  pub quiet : IsTold []
  pub is_exit : exit ≡ exit_of (shown s).status

-- These files are written, but then this one can't be. That is reported, and nothing more is written or printed.
pub record GivesUp (files : List Written) (name : List ℕ) (old new : Seen) (out out' : Sunk)
    (IsTold : List ℕ → Type 0) (exit : ℕ) : Type 0 where
  pub fails : Fails old new files name
  pub unprinted : out' ≡ out
  pub tells : IsTold (unwritten_line name)
  pub is_exit : exit ≡ 3

-- the end of a run that came to this state and prints this log
abbrev pub Ends : State → List ℕ → Seen → Seen → Sunk → Sunk → (List ℕ → Type 0) → ℕ → Type 0
Ends s log old new out out' IsTold exit =
    Finishes s log old new out out' IsTold exit
    ⊎ GivesUp [] (bbl_file s).name old new out out' IsTold exit
    ⊎ GivesUp (bbl_file s ∷ []) (blg_file s).name old new out out' IsTold exit

-- A job is run: its files are looked up until it wants no new one, and the run ends with the state after them.
pub record Runs (root : List ℕ) (min : ℕ) (terse : Bool) (old new : Seen) (out out' err err' : Sunk) (exit : ℕ) :
    Type 0 where
  pub files : List LookedUp
  pub between : Seen
  pub loads : Loads root min old between files
  pub are_all : next (loaded root min files) (map name_of files) ≡ None
  pub ends : Ends (loaded root min files) (printed_log terse (loaded root min files)) between new out out'
      (λ text. Tells err err' (refusals_told root min files ++ text)) exit

-- Memory runs out. Some of the job's files were looked up, and nothing is written or printed.
pub record Stops (root : List ℕ) (min : ℕ) (old new : Seen) (out out' err err' : Sunk) : Type 0 where
  pub files : List LookedUp
  pub loads : Loads root min old new files
  pub unprinted : out' ≡ out
  pub tells : Tells err err' (refusals_told root min files)
