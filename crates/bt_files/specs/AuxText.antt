-- A text of .aux lines that is written from its items, so that the reader finds the same items in it.
use Rattle.std.specs.Prelude.{ℕ, ◌-◌, List, [], ◌∷◌, ◌++◌, map, replicate, codes, Option, Some, None}
use Rattle.std.specs.List.{join_with_byte}
use Rattle.bt_bib.specs.declared.aux_line.Command.{Command}
use Rattle.bt_bib.specs.declared.aux_line.Command.TheVariants.{Citation, Database, Style, Nested}
use Rattle.bt_bib.specs.declared.aux_argument.AuxFault.{AuxFault}
use Rattle.bt_bib.specs.declared.aux_argument.AuxFault.TheVariants.{NoBrace, WhiteSpace, StuffAfter}
use Rattle.bt_bib.specs.declared.aux_line.AuxItem.{AuxItem}
use Rattle.bt_bib.specs.AuxLine.{opening_of}
use Rattle.bt_job.specs.FileNames.{file_name_of}
use Rattle.bt_job.specs.Lines.{database_names, style_names}

-- Writing

abbrev pub comma : ℕ
comma = 44

abbrev pub line_feed : ℕ
line_feed = 10

-- The reader drops the part at which it finds a fault, so one more is written there.
abbrev pub written_parts : Option AuxFault → List (List ℕ) → List (List ℕ)
written_parts None parts = parts
written_parts (Some fault) parts = parts ++ codes "x" ∷ []

-- what is written after the last part: the closing brace, or what makes the fault
abbrev pub written_end : Option AuxFault → List ℕ
written_end None = codes "}"
written_end (Some NoBrace) = []
written_end (Some WhiteSpace) = codes " }"
written_end (Some StuffAfter) = codes "}x"

-- what is written after a command's opening brace
abbrev pub written_argument : List (List ℕ) → Option AuxFault → List ℕ
written_argument parts fault = join_with_byte comma (written_parts fault parts) ++ written_end fault

-- an item as a line
abbrev pub written_item : AuxItem → List ℕ
written_item i = opening_of i.command ++ written_argument i.parts i.fault

-- items, each on the line of its own number, in a text that is at this line now
abbrev pub written_from : ℕ → List AuxItem → List ℕ
written_from line [] = []
written_from line (i ∷ is) = replicate (i.line - line) line_feed ++ (written_item i ++ written_from i.line is)

-- items as a text
unfoldable pub written : List AuxItem → List ℕ
written items = written_from 1 items

-- Other names

-- the part for the file that has another name
abbrev pub part_with : (List ℕ → List ℕ) → Command → List ℕ → List ℕ
part_with f Citation key = key
part_with f Database part = f (file_name_of Database part)
part_with f Style part = f (file_name_of Style part)
part_with f Nested part = f (file_name_of Nested part)

-- an item in which each file has another name, and each key stays
abbrev pub item_with : (List ℕ → List ℕ) → AuxItem → AuxItem
item_with f i = record i { parts = map (part_with f i.command) i.parts }

-- the files that an item names
abbrev pub names_by : Command → List (List ℕ) → List (List ℕ)
names_by Citation keys = []
names_by Database parts = database_names parts
names_by Style parts = style_names parts
names_by Nested parts = parts

abbrev pub names_in : AuxItem → List (List ℕ)
names_in i = names_by i.command i.parts
