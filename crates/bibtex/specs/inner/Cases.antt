-- Parts of rules, for the functions and lemmas that speak of them.
use Rattle.std.specs.Prelude.{ℕ, List, [], not, Option, Some, None, Result, Ok, Err, if◌then◌else◌, ◌∷◌, ◌++◌, slice_set, take, drop, filter, unwrap_or}
use Rattle.std.specs.Option.{is_none}
use Rattle.bibtex.specs.declared.edit.Refusal.{Refusal}
use Rattle.bibtex.specs.declared.edit.Refusal.TheVariants.{BadName, NoSuchFile}
use Rattle.bt_job.specs.declared.files.File.{File}
use Rattle.bt_job.specs.FileNames.{is_file_name, text_of}
use Rattle.bibtex.specs.declared.state.State.{State}
use Rattle.bibtex.specs.Present.{is_root_name}
use Rattle.bibtex.specs.Applied.{range_refusal}
use Rattle.std.specs.Str.{bytes_eq}

-- the reason to refuse to replace a range of the text that was found under a name
abbrev pub found_refusal : Option (List ℕ) → ℕ → ℕ → ℕ → Option Refusal
found_refusal found start end size = elim found [
  | None ↦ Some NoSuchFile
  | Some text ↦ range_refusal text start end size
]

-- against the removal of a file
abbrev pub remove_refusal : List File → List ℕ → Option Refusal
remove_refusal files name =
    if not (is_file_name name) then Some BadName
    else if is_none (text_of files name) then Some NoSuchFile
    else None

-- against a root name
abbrev pub root_refusal : List ℕ → Option Refusal
root_refusal root = if is_root_name root then None else Some BadName

-- this state, unless there is a refusal
abbrev pub unless_refused : Option Refusal → State → Result State Refusal
unless_refused refusal s = elim refusal [ None ↦ Ok s | Some reason ↦ Err reason ]

-- the texts with a file at a place, or after the others
abbrev pub put_at : Option ℕ → File → List File → List File
put_at place file files = elim place [ None ↦ files ++ file ∷ [] | Some n ↦ slice_set files n file ]

-- the texts without the one of a name
abbrev pub without : List ℕ → List File → List File
without name files = filter (λ f. not (bytes_eq f.name name)) files

-- a text with other bytes in the place of its bytes from one place up to another
abbrev pub replaced : ℕ → ℕ → List ℕ → List ℕ → List ℕ
replaced start end bytes text = take start text ++ bytes ++ drop end text

-- the present text of a name; the empty text where there is none
abbrev pub present_text : List File → List ℕ → List ℕ
present_text files name = unwrap_or (text_of files name) []
