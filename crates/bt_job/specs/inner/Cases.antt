-- Parts of rules, for the functions and lemmas that are about them.
use Rattle.std.specs.Prelude.{ℕ, ◌+◌, List, [], map, flat_map, Option, Some, None, if◌then◌else◌, Bool, codes, ◌∷◌}
use Rattle.std.specs.Str.{bytes_eq}
use Rattle.bt_bib.specs.AuxLine.{aux_lines}
use Rattle.bt_bib.specs.declared.aux_line.Command.TheVariants.{Nested, Citation, Database, Style}
use Rattle.bt_job.specs.declared.files.File.{File}
use Rattle.bt_job.specs.declared.citations.Citations.{Citations}
use Rattle.bt_job.specs.Faults.{LineFault, OtherSpelling, key_fault, database_fault, style_fault, input_fault}
use Rattle.bt_job.specs.Lines.{JobLine, has_command, job_lines, lines_of, first_with, cited, database_names, style_names, input_names, argument_fault, unless_second}
use Rattle.bt_job.specs.Citations.{asked_by, without_root}
use Rattle.std.specs.Option.{is_some}
use Rattle.bt_job.specs.FileNames.{text_of}
use Rattle.bt_bib.specs.declared.aux_line.Command.{Command}
use Rattle.bt_bib.specs.declared.aux_argument.AuxFault.{AuxFault}

-- a key that was first spelled this way
abbrev pub spelling_fault : List ℕ → Option (List ℕ) → Option LineFault
spelling_fault key None = None
spelling_fault key (Some first) = if bytes_eq first key then None else Some (OtherSpelling key first)

-- the lines of a file that has this text
abbrev pub lines_in : ℕ → List ℕ → Option (List ℕ) → List JobLine
lines_in level file None = []
lines_in level file (Some text) =
    map (λ item. record { level = level; file = file; item = item }) (aux_lines text)

-- the lines of the file that a line opens, which has this fault
abbrev pub lines_opened : List File → JobLine → Option LineFault → List JobLine
lines_opened files line (Some fault) = []
lines_opened files line None =
    if has_command Nested line then flat_map (lines_of files (line.level + 1)) line.item.parts else []

-- a job whose root file has this text
abbrev pub asked_from : List File → List ℕ → Option (List ℕ) → Citations
asked_from files root None = without_root root
asked_from files root (Some text) = asked_by files root (job_lines files root)

-- whether a file of this name is there
abbrev pub is_there : List File → List ℕ → Bool
is_there files name = is_some (text_of files name)

-- What is wrong with a line of a command, if anything, given the lines before it.
abbrev pub command_fault :
    List File → List ℕ → List JobLine → Command → List (List ℕ) → Option AuxFault → Option LineFault
command_fault files root before command parts end = elim command [
  | Citation ↦ argument_fault key_fault (cited before) parts end
  | Database ↦
      unless_second (codes "\\bibdata") (first_with Database before)
      (argument_fault (database_fault files) [] (database_names parts) end)
  | Style ↦
      unless_second (codes "\\bibstyle") (first_with Style before)
      (argument_fault (style_fault files) [] (style_names parts) end)
  | Nested ↦ argument_fault (input_fault files) (root ∷ input_names before) parts end
]
