-- What of the files the citations depend on: the names in order, and the texts of .aux files.
use Rattle.std.specs.Prelude.{◌≡◌, ℕ, List, [], true, if◌then◌else◌}
use Rattle.std.specs.Option.{is_some}
use Rattle.bt_job.specs.declared.files.File.{File}
use Rattle.bt_job.specs.FileNames.{is_aux, text_of}

-- a file, with the empty text unless it is an .aux file
abbrev pub aux_only : File → File
aux_only f = record { name = f.name; text = if is_aux f.name then f.text else [] }

-- Both lists have files of the same names, and each .aux file has the same text in both.
pub record AskAlike (files others : List File) : Type 0 where
  pub there : (name : List ℕ) → is_some (text_of files name) ≡ is_some (text_of others name)
  pub texts : (name : List ℕ) → is_aux name ≡ true → text_of files name ≡ text_of others name
