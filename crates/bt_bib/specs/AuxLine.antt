-- The lines of one .aux text that matter.
use Rattle.std.specs.Prelude.{ℕ, ◌+◌, Bool, List, [], ◌∷◌, length, drop, codes, Option, Some, None, eqb}
use Rattle.std.specs.List.{find, slice_split, starts_with}
use Rattle.bt_text.specs.ByteTests.{is_line_feed}
use Rattle.bt_text.specs.White.{trimmed_end}
use Rattle.bt_bib.specs.declared.aux_line.Command.{Command}
use Rattle.bt_bib.specs.declared.aux_line.Command.TheVariants.{Citation, Database, Style, Nested}
use Rattle.bt_bib.specs.declared.aux_argument.Parting.{Parting}
use Rattle.bt_bib.specs.declared.aux_argument.Parting.TheVariants.{Commas, Whole}
use Rattle.bt_bib.specs.declared.aux_line.AuxItem.{AuxItem}
use Rattle.bt_bib.specs.AuxArgument.{argument_parts, fault_of}

-- what a line that matters begins with
abbrev pub opening_of : Command → List ℕ
opening_of Citation = codes "\\citation{"
opening_of Database = codes "\\bibdata{"
opening_of Style = codes "\\bibstyle{"
opening_of Nested = codes "\\@input{"

-- whether a line begins with a command
abbrev pub begins : Command → List ℕ → Bool
begins c line = starts_with eqb line (opening_of c)

-- the command of a line that matters: the one that it begins with
abbrev pub command_of : List ℕ → Option Command
command_of line = find (λ c. begins c line) (Citation ∷ Database ∷ Style ∷ Nested ∷ [])

-- how a command's argument is split
abbrev pub parting : Command → Parting
parting Citation = Commas
parting Database = Commas
parting _ = Whole

-- a line that matters
abbrev pub item : ℕ → List ℕ → Command → AuxItem
item n line c =
    let rest = drop (length (opening_of c)) line in
    record { line = n; command = c; parts = argument_parts (parting c) rest; fault = fault_of rest }

-- the lines that matter, of lines numbered from n on
abbrev pub items_from : ℕ → List (List ℕ) → List AuxItem
items_from n [] = []
items_from n (l ∷ ls) =
    let line = trimmed_end l in
    let later = items_from (n + 1) ls in
    elim (command_of line) [ None ↦ later | Some c ↦ item n line c ∷ later ]

-- the lines of a text that matter
unfoldable pub aux_lines : List ℕ → List AuxItem
aux_lines text = items_from 1 (slice_split is_line_feed text)
