-- What an edit makes of the present state, or the first reason that refuses it.
use Rattle.std.specs.Prelude.{ℕ, ◌+◌, ◌-◌, List, [], length, Bool, not, true, false, ◌≡◌, ◌&&◌, ◌||◌, nat_lt, nat_le, IfErr, IsErr, Option, Some, None, Result, Ok, Err, if◌then◌else◌, unwrap_or, ◌++◌, take, drop, filter, bytes_eq}
use Rattle.std.specs.Option.{is_none}
use Rattle.bibtex.specs.declared.edit.Refusal.{Refusal}
use Rattle.bibtex.specs.declared.edit.Refusal.TheVariants.{BadName, NoSuchFile, RangeOutside, FileTooLarge, TooManyFiles, OutOfMemory}
use Rattle.bt_job.specs.declared.files.File.{File}
use Rattle.bt_job.specs.FileNames.{is_file_name, text_of}
use Rattle.bibtex.specs.Edit.{Edit, write, splice, remove, root_name, min_crossrefs, bytes_of}
use Rattle.bibtex.specs.declared.state.State.{State}
use Rattle.bibtex.specs.Present.{place_of_file, with_text, is_root_name}

-- the greatest number of bytes of a text
abbrev pub file_size_limit : ℕ
file_size_limit = 1048576

-- the greatest number of files
abbrev pub file_count_limit : ℕ
file_count_limit = 64

-- Refusals: the first reason that holds

-- the reason to refuse a text of this length under a name
abbrev pub write_refusal : List File → List ℕ → ℕ → Option Refusal
write_refusal files name size =
    if not (is_file_name name) then Some BadName
    else if nat_lt file_size_limit size then Some FileTooLarge
    else if is_none (place_of_file name files) && nat_le file_count_limit (length files) then Some TooManyFiles
    else None

-- the reason to refuse a splice of a text that brings this number of bytes
abbrev pub range_refusal : List ℕ → ℕ → ℕ → ℕ → Option Refusal
range_refusal text start end size =
    if nat_lt end start || nat_lt (length text) end then Some RangeOutside
    else if nat_lt file_size_limit (start + (length text - end) + size) then Some FileTooLarge
    else None

-- the same for the text of a name
abbrev pub splice_refusal : List File → List ℕ → ℕ → ℕ → ℕ → Option Refusal
splice_refusal files name start end size =
    if not (is_file_name name) then Some BadName
    else elim (text_of files name) [ None ↦ Some NoSuchFile | Some text ↦ range_refusal text start end size ]

-- the reason to refuse an edit that brings this number of bytes, whatever they are
abbrev pub refusal_of : Edit → ℕ → State → Option Refusal
refusal_of (write name bytes) size s = write_refusal s.texts name size
refusal_of (splice name start end bytes) size s = splice_refusal s.texts name start end size
refusal_of (remove name) size s =
    if not (is_file_name name) then Some BadName
    else if is_none (text_of s.texts name) then Some NoSuchFile
    else None
refusal_of (root_name name) size s = if is_root_name name then None else Some BadName
refusal_of (min_crossrefs n) size s = None

-- What becomes of the state

-- the state after an edit that there is no reason to refuse
abbrev pub changed : Edit → State → State
changed (write name bytes) s = record s { texts = with_text name bytes s.texts }
changed (splice name start end bytes) s =
    let text = unwrap_or (text_of s.texts name) [] in
    record s { texts = with_text name (take start text ++ bytes ++ drop end text) s.texts }
changed (remove name) s = record s { texts = filter (λ f. not (bytes_eq f.name name)) s.texts }
changed (root_name name) s = record s { root = name }
changed (min_crossrefs n) s = record s { min = n }

-- the state after an edit, or the first reason to refuse it
abbrev pub applied : Edit → State → Result State Refusal
applied e s = elim (refusal_of e (length (bytes_of e)) s) [ None ↦ Ok (changed e s) | Some refusal ↦ Err refusal ]

-- How an edit with this outcome is answered: with the same refusal, if the outcome is one; else it may only run out of
-- memory.
abbrev pub IsAnswer : {A : Type 0} → Result State Refusal → Result A Refusal → Type 0
IsAnswer (Ok s) result = IfErr result (λ refusal. refusal ≡ OutOfMemory)
IsAnswer (Err refusal) result = result ≡ Err refusal

-- how a new session is answered, given whether its root name is one
abbrev pub IsNew : {A : Type 0} → Bool → Result A Refusal → Type 0
IsNew true result = IfErr result (λ refusal. refusal ≡ OutOfMemory)
IsNew false result = IfErr result (λ refusal. refusal ≡ BadName) × IsErr result

-- After a refusal

-- the number of a refusal
abbrev pub code_of : Refusal → ℕ
code_of BadName = 1
code_of NoSuchFile = 2
code_of RangeOutside = 3
code_of FileTooLarge = 4
code_of TooManyFiles = 5
code_of OutOfMemory = 6

-- the state after an edit of this outcome
abbrev pub state_or : State → Result State Refusal → State
state_or old (Ok state) = state
state_or old (Err refusal) = old

-- the outcome of an edit for which memory may run out: then an accepted edit is refused
abbrev pub unless_out_of_memory : Bool → Result State Refusal → Result State Refusal
unless_out_of_memory false made = made
unless_out_of_memory true (Ok state) = Err OutOfMemory
unless_out_of_memory true (Err refusal) = Err refusal
