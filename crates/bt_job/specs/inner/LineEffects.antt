-- The effect of a line that matters, step by step as in the code: what it adds to what is asked for, and its error or
-- the file that it opens.
use Rattle.std.specs.Prelude.{ℕ, Bool, true, false, List, [], ◌∷◌, ◌++◌, length, codes, Option, Some, None, if◌then◌else◌}
use Rattle.std.specs.Str.{bytes_eq}
use Rattle.bt_text.specs.NameList.{same_name}
use Rattle.bt_bib.specs.declared.aux_line.Command.{Command}
use Rattle.bt_bib.specs.declared.aux_line.Command.TheVariants.{Citation, Database, Style, Nested}
use Rattle.bt_bib.specs.declared.aux_argument.AuxFault.{AuxFault}
use Rattle.bt_bib.specs.declared.aux_line.AuxItem.{AuxItem}
use Rattle.bt_job.specs.declared.files.File.{File}
use Rattle.bt_log.specs.declared.message.Rank.TheVariants.{FileLine}
use Rattle.bt_log.specs.declared.message.FileKind.{FileKind}
use Rattle.bt_log.specs.declared.message.FileKind.TheVariants.{Aux, Bib, Bst}
use Rattle.bt_log.specs.declared.message.FileNote.{FileNote}
use Rattle.bt_log.specs.declared.message.FileNote.TheVariants.{StyleFile, NotOpened}
use Rattle.bt_log.specs.declared.message.Said.{Said}
use Rattle.bt_log.specs.declared.message.Said.TheVariants.{Words, OfFile}
use Rattle.bt_log.specs.declared.message.Place.TheVariants.{Line}
use Rattle.bt_log.specs.declared.message.Message.{Message}
use Rattle.bt_log.specs.Message.{of_file, skipping}
use Rattle.bt_job.specs.declared.progress.Progress.{Progress}
use Rattle.bt_job.specs.declared.progress.Outcome.{Outcome}
use Rattle.bt_job.specs.declared.progress.Outcome.TheVariants.{Taken, Wrong, Opens}
use Rattle.bt_job.specs.FileNames.{with_name, text_of, file_name_of}
use Rattle.bt_job.specs.Faults.{said, SecondCommand, SecondStar, OtherSpelling, IllEnded}
use Rattle.bt_job.specs.inner.FileNames.{name_fault}

-- with a message after the others
abbrev pub told : Message → Progress → Progress
told m r = record r { log = r.log ++ m ∷ [] }

-- with an error at a line of a file
abbrev pub logged_at : List ℕ → ℕ → Said → Progress → Progress
logged_at file line said r = told (skipping said (Line file line None) (codes "command")) r

-- Citations

-- the part `*`, which may occur once
abbrev pub cited_all : Option ℕ → Progress → Progress × Outcome
cited_all None r = (record r { star = Some (length r.keys) }, Taken)
cited_all (Some n) r = (r, Wrong (said SecondStar))

-- a key, given how it was spelled before, if it was
abbrev pub cited_key : List ℕ → Option (List ℕ) → Progress → Progress × Outcome
cited_key key None r = (record r { keys = r.keys ++ key ∷ [] }, Taken)
cited_key key (Some old) r =
    if bytes_eq old key then (r, Taken)
    else (r, Wrong (said (OtherSpelling key old)))

-- a part of \citation
unfoldable pub cited_part : List ℕ → Progress → Progress × Outcome
cited_part part r = if bytes_eq part (codes "*") then cited_all r.star r else cited_key part (same_name part r.keys) r

-- Files that are named

-- the kind of file that a command names; a \citation names none
abbrev pub file_kind : Command → FileKind
file_kind Database = Bib
file_kind Style = Bst
file_kind Nested = Aux
file_kind Citation = Aux

-- with a name that was met
abbrev pub meeting : Command → List ℕ → Progress → Progress
meeting Database name r = record r { met = r.met ++ name ∷ [] }
meeting Nested name r = record r { met = r.met ++ name ∷ [] }
meeting Style name r = r
meeting Citation name r = r

-- with a name that was looked up and not found
abbrev pub wanting : List ℕ → Progress → Progress
wanting name r = record r { wanted = with_name r.wanted name }

-- the name of a file that is there
abbrev pub file_found : Command → List ℕ → Progress → Progress × Outcome
file_found Database name r = (record r { databases = r.databases ++ name ∷ [] }, Taken)
file_found Style name r = (told (of_file FileLine StyleFile name) (record r { style = Some name }), Taken)
file_found Nested name r = (r, Opens name)
file_found Citation name r = (r, Taken)

-- a name that has this text
abbrev pub looked_up : Command → List ℕ → Option (List ℕ) → Progress → Progress × Outcome
looked_up c name (Some text) r = file_found c name r
looked_up c name None r = (wanting name r, Wrong (OfFile (NotOpened (file_kind c)) name))

-- a name with this fault
abbrev pub unless_misnamed : List File → Command → List ℕ → Option FileNote → Progress → Progress × Outcome
unless_misnamed files c name (Some note) r = (r, Wrong (OfFile note name))
unless_misnamed files c name None r = looked_up c name (text_of files name) (meeting c name r)

-- a name of a file
unfoldable pub named : List File → Command → List ℕ → Progress → Progress × Outcome
named files c name r = unless_misnamed files c name (name_fault c r.met name) r

-- Commands

-- one part of a command
abbrev pub part_taken : List File → Command → List ℕ → Progress → Progress × Outcome
part_taken files Citation part r = cited_part part r
part_taken files Database part r = named files Database (file_name_of Database part) r
part_taken files Style part r = named files Style (file_name_of Style part) r
part_taken files Nested part r = named files Nested (file_name_of Nested part) r

-- the words of a message that is about no file
abbrev pub words_in : Said → List ℕ
words_in (Words words) = words
words_in (OfFile note name) = []

-- what a message says about a fault
abbrev pub argument_words : AuxFault → List ℕ
argument_words fault = words_in (said (IllEnded fault))

-- the effect of the end of an argument
abbrev pub fault_outcome : Option AuxFault → Outcome
fault_outcome None = Taken
fault_outcome (Some fault) = Wrong (Words (argument_words fault))

-- what follows, unless an error or an opened file ends the command
abbrev pub going_on : (Progress → Progress × Outcome) → Progress × Outcome → Progress × Outcome
going_on later (r, Taken) = later r
going_on later (r, Wrong said) = (r, Wrong said)
going_on later (r, Opens name) = (r, Opens name)

-- the parts in order, then the fault after them; an error drops the rest
abbrev pub parts_taken : List File → Command → Option AuxFault → List (List ℕ) → Progress → Progress × Outcome
parts_taken files c fault [] r = (r, fault_outcome fault)
parts_taken files c fault (part ∷ parts) r = going_on (parts_taken files c fault parts) (part_taken files c part r)

-- whether a command that may occur only once was met
abbrev pub is_second : Command → Progress → Bool
is_second Database r = r.database_met
is_second Style r = r.style_met
is_second Citation r = false
is_second Nested r = false

-- what a message says about such a command
abbrev pub second_words : Command → List ℕ
second_words Database = words_in (said (SecondCommand (codes "\\bibdata")))
second_words Style = words_in (said (SecondCommand (codes "\\bibstyle")))
second_words Citation = []
second_words Nested = []

-- with a command that was met
abbrev pub command_met : Command → Progress → Progress
command_met Citation r = record r { citation_met = true }
command_met Database r = record r { database_met = true }
command_met Style r = record r { style_met = true }
command_met Nested r = r

-- a line that matters
unfoldable pub item_taken : List File → AuxItem → Progress → Progress × Outcome
item_taken files item r =
    if is_second item.command r then (r, Wrong (Words (second_words item.command)))
    else parts_taken files item.command item.fault item.parts (command_met item.command r)
