-- What can be wrong with an .aux line that matters, and what the log says about it.
use Rattle.std.specs.Prelude.{ℕ, not, eqb, List, [], ◌∷◌, ◌++◌, codes, Option, Some, None, if◌then◌else◌}
use Rattle.std.specs.List.{ends_with}
use Rattle.std.specs.Option.{is_some}
use Rattle.std.specs.Str.{bytes_eq}
use Rattle.bt_text.specs.NameList.{same_name, is_among}
use Rattle.bt_bib.specs.declared.aux_argument.AuxFault.{AuxFault}
use Rattle.bt_bib.specs.declared.aux_argument.AuxFault.TheVariants.{NoBrace, WhiteSpace, StuffAfter}
use Rattle.bt_log.specs.declared.message.FileKind.TheVariants.{Aux, Bib, Bst}
use Rattle.bt_log.specs.declared.message.FileNote.{FileNote}
use Rattle.bt_log.specs.declared.message.FileNote.TheVariants.{NotOpened, DatabaseTwice, AuxTwice, WrongExtension, BadFileName}
use Rattle.bt_log.specs.declared.message.Said.{Said}
use Rattle.bt_log.specs.declared.message.Said.TheVariants.{Words, OfFile}
use Rattle.bt_job.specs.declared.files.File.{File}
use Rattle.bt_job.specs.FileNames.{is_file_name, text_of}

pub data LineFault : Type 0 where
  -- a second command of this name
  SecondCommand : List ℕ → LineFault
  -- a second `*`
  SecondStar : LineFault
  -- a key, and how it was spelled first
  OtherSpelling : List ℕ → List ℕ → LineFault
  -- what is wrong with a file, and its name
  WrongFile : FileNote → List ℕ → LineFault
  -- the end of the argument
  IllEnded : AuxFault → LineFault

-- what the log says about it
abbrev pub said : LineFault → Said
said (SecondCommand command) = Words (codes "Illegal, another " ++ command ++ codes " command")
said SecondStar = Words (codes "Multiple inclusions of entire database")
said (OtherSpelling key first) = Words (codes "Case mismatch error between cite keys " ++ key ++ codes " and " ++ first)
said (WrongFile note name) = OfFile note name
said (IllEnded NoBrace) = Words (codes "No \"}\"")
said (IllEnded WhiteSpace) = Words (codes "White space in argument")
said (IllEnded StuffAfter) = Words (codes "Stuff after \"}\"")

-- Parts

-- what is wrong with a part, if anything, given the parts before it
abbrev pub PartFault : Type 0
PartFault = List (List ℕ) → List ℕ → Option LineFault

-- a part of \citation: a key must be spelled as it was first
abbrev pub key_fault : PartFault
key_fault before part =
    if bytes_eq part (codes "*") then (if is_among before part then Some SecondStar else None)
    else elim (same_name part before) [
      | None ↦ None
      | Some first ↦ if bytes_eq first part then None else Some (OtherSpelling part first)
    ]

-- a name of \bibdata
abbrev pub database_fault : List File → PartFault
database_fault files before name =
    if not (is_file_name name) then Some (WrongFile BadFileName name)
    else if is_among before name then Some (WrongFile DatabaseTwice name)
    else if not (is_some (text_of files name)) then Some (WrongFile (NotOpened Bib) name)
    else None

-- the name of \bibstyle
abbrev pub style_fault : List File → PartFault
style_fault files before name =
    if not (is_file_name name) then Some (WrongFile BadFileName name)
    else if not (is_some (text_of files name)) then Some (WrongFile (NotOpened Bst) name)
    else None

-- the name of \@input
abbrev pub input_fault : List File → PartFault
input_fault files before name =
    if not (ends_with eqb name (codes ".aux")) then Some (WrongFile WrongExtension name)
    else if not (is_file_name name) then Some (WrongFile BadFileName name)
    else if is_among before name then Some (WrongFile AuxTwice name)
    else if not (is_some (text_of files name)) then Some (WrongFile (NotOpened Aux) name)
    else None

-- The first fault ends a command.

-- the parts before the first wrong one
abbrev pub right_parts : PartFault → List (List ℕ) → List (List ℕ) → List (List ℕ)
right_parts fault before [] = []
right_parts fault before (part ∷ parts) =
    if is_some (fault before part) then []
    else part ∷ right_parts fault (before ++ part ∷ []) parts

-- what is wrong with that one
abbrev pub first_fault : PartFault → List (List ℕ) → List (List ℕ) → Option LineFault
first_fault fault before [] = None
first_fault fault before (part ∷ parts) =
    if is_some (fault before part) then fault before part
    else first_fault fault (before ++ part ∷ []) parts
