-- The names in commands, and what is wrong with a name, step by step as in the code.
use Rattle.std.specs.Prelude.{ℕ, Bool, true, not, eqb, List, codes, Option, Some, None, if◌then◌else◌}
use Rattle.std.specs.List.{ends_with}
use Rattle.bt_bib.specs.declared.aux_line.Command.{Command}
use Rattle.bt_bib.specs.declared.aux_line.Command.TheVariants.{Citation, Database, Style, Nested}
use Rattle.bt_log.specs.declared.message.FileNote.{FileNote}
use Rattle.bt_log.specs.declared.message.FileNote.TheVariants.{DatabaseTwice, AuxTwice, WrongExtension, BadFileName}
use Rattle.bt_text.specs.NameList.{is_among}
use Rattle.bt_job.specs.FileNames.{is_file_name}

-- whether a name has the extension that a command asks for
abbrev pub has_ending : Command → List ℕ → Bool
has_ending Nested name = ends_with eqb name (codes ".aux")
has_ending Database name = true
has_ending Style name = true
has_ending Citation name = true

-- what is wrong with a name that was met before
abbrev pub met_before : Command → Option FileNote
met_before Database = Some DatabaseTwice
met_before Nested = Some AuxTwice
met_before Style = None
met_before Citation = None

-- what is wrong with a name, given the files that were met
unfoldable pub name_fault : Command → List (List ℕ) → List ℕ → Option FileNote
name_fault c met name =
    if not (has_ending c name) then Some WrongExtension
    else if not (is_file_name name) then Some BadFileName
    else if is_among met name then met_before c
    else None
