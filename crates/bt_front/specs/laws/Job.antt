-- What other names don't change: a job whose names a session admits, and the lines of an .aux text.
use Rattle.std.specs.Prelude.{◌≡◌, ℕ, true, List, map, length, ◌<◌, ◌^◌}
use Rattle.std.specs.List.{list_all}
use Rattle.bt_bib.specs.AuxLine.{aux_lines}
use Rattle.bt_job.specs.declared.files.File.{File}
use Rattle.bt_run.specs.Meaning.{meaning, trace}
use Rattle.bt_files.specs.Names.{is_own_name}
use Rattle.bt_files.specs.AuxText.{item_with, written}
use Rattle.bt_front.specs.Job.{job_meaning, job_trace, names_of, renamed}

-- Laws

-- An .aux text that is written anew has the lines of the old one, in which each file has its session's name.
abbrev pub TextsKeepTheirLines : Type 0
TextsKeepTheirLines =
    (table : List (List ℕ)) (text : List ℕ) → length table < 2 ^ 64
    → aux_lines (written (map (item_with (renamed table)) (aux_lines text)))
    ≡ map (item_with (renamed table)) (aux_lines text)

-- If a session admits each name, the files mean what they mean in a session.
abbrev pub PlainJobsStay : Type 0
PlainJobsStay =
    (files : List File) (root : List ℕ) (min : ℕ) → list_all is_own_name (names_of files root) ≡ true
    → job_meaning files root min ≡ meaning files root min

-- Then their run has the steps that it has in a session.
abbrev pub PlainStepsStay : Type 0
PlainStepsStay =
    (files : List File) (root : List ℕ) (min : ℕ) → list_all is_own_name (names_of files root) ≡ true
    → job_trace files root min ≡ trace files root min
