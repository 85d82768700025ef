-- A job over an author's files: what they mean under names that a session admits, reported under the author's names.
use Rattle.std.specs.Prelude.{ℕ, Bool, eqb, List, [], ◌∷◌, ◌++◌, map, fold, flat_map, codes, unwrap_or, length, ◌==◌, if◌then◌else◌}
use Rattle.std.specs.List.{ends_with}
use Rattle.bt_bib.specs.AuxLine.{aux_lines}
use Rattle.bt_log.specs.Log.{log_bytes, terse_bytes}
use Rattle.bt_job.specs.declared.files.File.{File}
use Rattle.bt_run.specs.declared.course.Step.{Step}
use Rattle.bt_run.specs.Meaning.{Meaning, meaning, trace}
use Rattle.bt_files.specs.Names.{is_own_name, session_name, with_author}
use Rattle.bt_files.specs.AuxText.{names_in, item_with, written}
use Rattle.bt_files.specs.Messages.{name_back, put_back}

-- The names of a job

abbrev pub is_aux : File → Bool
is_aux f = ends_with eqb f.name (codes ".aux")

-- the names of files that an .aux text gives
abbrev pub names_given : List ℕ → List (List ℕ)
names_given text = flat_map names_in (aux_lines text)

-- the name of a file, and those that it gives
abbrev pub names_with : File → List (List ℕ)
names_with f = f.name ∷ (if is_aux f then names_given f.text else [])

-- the names of a job and those that its files give, its root's first
abbrev pub names_of : List File → List ℕ → List (List ℕ)
names_of files root = (root ++ codes ".aux") ∷ flat_map names_with files

-- those that a session doesn't admit, each once
unfoldable pub table_of : List File → List ℕ → List (List ℕ)
table_of files root = fold with_author [] (names_of files root)

-- The files under the session's names

-- the session's name of an author's file
abbrev pub renamed : List (List ℕ) → List ℕ → List ℕ
renamed table author = unwrap_or (session_name table author) author

-- An .aux text is written anew only if some name of the job changes.
abbrev pub text_under : List (List ℕ) → List ℕ → List ℕ
text_under table text =
    if length table == 0 then text
    else written (map (item_with (renamed table)) (aux_lines text))

abbrev pub file_under : List (List ℕ) → File → File
file_under table f =
    record { name = renamed table f.name; text = if is_aux f then text_under table f.text else f.text }

-- The root is the first name of a job, so it is number 1 if it needs another name.
abbrev pub root_under : List ℕ → List ℕ
root_under root = if is_own_name (root ++ codes ".aux") then root else codes "+/1"

-- Meaning

-- a meaning under the session's names, with the author's names put back
abbrev pub told_under : List (List ℕ) → Meaning → Meaning
told_under table m =
    let messages = map (put_back table) m.messages in
    record m {
      blg = log_bytes messages;
      terse = terse_bytes messages;
      messages = messages;
      wanted = map (name_back table) m.wanted;
    }

-- what a session's files mean, if this table gave them their names
abbrev pub meaning_under : List (List ℕ) → List File → List ℕ → ℕ → Meaning
meaning_under table files root min = told_under table (meaning (map (file_under table) files) (root_under root) min)

-- what an author's files mean
unfoldable pub job_meaning : List File → List ℕ → ℕ → Meaning
job_meaning files root min = meaning_under (table_of files root) files root min

-- the steps of their run
unfoldable pub job_trace : List File → List ℕ → ℕ → List Step
job_trace files root min = trace (map (file_under (table_of files root)) files) (root_under root) min
