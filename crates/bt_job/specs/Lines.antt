-- The lines of a job that matter: those of its root file, each followed by the lines of the file that it opens.
use Rattle.std.specs.Prelude.{ℕ, zero, suc, ◌+◌, Bool, true, false, List, [], ◌∷◌, ◌++◌, length, map, fold, filter, find, flat_map, codes, Option, Some, None, if◌then◌else◌}
use Rattle.std.specs.Option.{option_or, option_map}
use Rattle.bt_bib.specs.declared.aux_line.Command.{Command}
use Rattle.bt_bib.specs.declared.aux_line.Command.TheVariants.{Citation, Database, Style, Nested}
use Rattle.bt_bib.specs.declared.aux_argument.AuxFault.{AuxFault}
use Rattle.bt_bib.specs.declared.aux_line.AuxItem.{AuxItem}
use Rattle.bt_bib.specs.AuxLine.{aux_lines}
use Rattle.bt_job.specs.declared.files.File.{File}
use Rattle.bt_job.specs.FileNames.{text_of, with_ending}
use Rattle.bt_job.specs.Faults.{LineFault, SecondCommand, IllEnded, PartFault, key_fault, database_fault, style_fault, input_fault, right_parts, first_fault}

-- a line that matters, of a file that is `level` levels below the root
pub record JobLine : Type 0 where
  pub level : ℕ
  pub file : List ℕ
  pub item : AuxItem

-- the lines of a file
abbrev pub lines_of : List File → ℕ → List ℕ → List JobLine
lines_of files level file = elim (text_of files file) [
  | None ↦ []
  | Some text ↦ map (λ item. record { level = level; file = file; item = item }) (aux_lines text)
]

-- Lines of one command

abbrev pub is_same_command : Command → Command → Bool
is_same_command Citation Citation = true
is_same_command Database Database = true
is_same_command Style Style = true
is_same_command Nested Nested = true
is_same_command _ _ = false

abbrev pub has_command : Command → JobLine → Bool
has_command command line = is_same_command command line.item.command

-- the first line of a command, if there is one
abbrev pub first_with : Command → List JobLine → Option JobLine
first_with command lines = find (has_command command) lines

-- what was cited, in order: the parts of each \citation before its first wrong one
unfoldable pub cited : List JobLine → List (List ℕ)
cited lines =
    fold (λ (before : List (List ℕ)) (line : JobLine). before ++ right_parts key_fault before line.item.parts) []
    (filter (has_command Citation) lines)

-- the parts of a line, if there is one
abbrev pub line_parts : Option JobLine → List (List ℕ)
line_parts o = elim o [ None ↦ [] | Some line ↦ line.item.parts ]

-- the names of a \bibdata
abbrev pub database_names : List (List ℕ) → List (List ℕ)
database_names parts = map (with_ending (codes ".bib")) parts

-- the name of a \bibstyle
abbrev pub style_names : List (List ℕ) → List (List ℕ)
style_names parts = map (with_ending (codes ".bst")) parts

-- the names of all \@input
abbrev pub input_names : List JobLine → List (List ℕ)
input_names lines = flat_map (λ line. line.item.parts) (filter (has_command Nested) lines)

-- What is wrong with a line

-- the first fault of some names that follow others, else the fault of the argument's end
abbrev pub argument_fault : PartFault → List (List ℕ) → List (List ℕ) → Option AuxFault → Option LineFault
argument_fault fault before names end = option_or (first_fault fault before names) (option_map IllEnded end)

-- a command of this name that may occur only once, given its earlier line, if there is one
abbrev pub unless_second : List ℕ → Option JobLine → Option LineFault → Option LineFault
unless_second command None fault = fault
unless_second command (Some line) fault = Some (SecondCommand command)

-- what is wrong with a line, if anything, given the lines before it
unfoldable pub line_fault : List File → List ℕ → List JobLine → JobLine → Option LineFault
line_fault files root before line =
    let parts = line.item.parts in
    let end = line.item.fault in
    elim line.item.command [
      | Citation ↦ argument_fault key_fault (cited before) parts end
      | Database ↦
          unless_second (codes "\\bibdata") (first_with Database before)
          (argument_fault (database_fault files) [] (database_names parts) end)
      | Style ↦
          unless_second (codes "\\bibstyle") (first_with Style before)
          (argument_fault (style_fault files) [] (style_names parts) end)
      | Nested ↦ argument_fault (input_fault files) (root ∷ input_names before) parts end
    ]

-- All lines

-- the lines of the file that a line opens, if it opens one
abbrev pub opened_by : List File → List ℕ → List JobLine → JobLine → List JobLine
opened_by files root before line = elim (line_fault files root before line) [
  | Some fault ↦ []
  | None ↦ if has_command Nested line then flat_map (lines_of files (line.level + 1)) line.item.parts else []
]

-- A line after some others, followed by the lines of the file that it opens, each with what it opens in turn. Files nest
-- at most `deep` levels below it.
unfoldable pub with_line : List File → List ℕ → ℕ → List JobLine → JobLine → List JobLine
with_line files root zero before line = before ++ line ∷ []
with_line files root (suc deep) before line =
    fold (with_line files root deep) (before ++ line ∷ []) (opened_by files root before line)

-- All lines of a job with this root file. No file is opened twice, so files nest no deeper than there are files.
unfoldable pub job_lines : List File → List ℕ → List JobLine
job_lines files root = fold (with_line files root (length files)) [] (lines_of files 0 root)
