-- A \bibstyle or \@input has one part, or a fault and none.
use Rattle.std.proofs.Common.{ℕ, ◌+◌, List, [], ◌∷◌, length, drop, Option, Some, None}
use Rattle.std.specs.List.{slice_split}
use Rattle.bt_text.specs.White.{trimmed_end}
use Rattle.bt_bib.specs.declared.aux_line.Command.{Command}
use Rattle.bt_bib.specs.declared.aux_line.Command.TheVariants.{Citation, Database, Style, Nested}
use Rattle.bt_bib.specs.declared.aux_argument.AuxFault.{AuxFault}
use Rattle.bt_bib.specs.declared.aux_line.AuxItem.{AuxItem}
use Rattle.bt_bib.specs.AuxArgument.{inside, parts_kept, fault_of}
use Rattle.bt_text.specs.ByteTests.{is_line_feed}
use Rattle.bt_bib.specs.AuxLine.{opening_of, command_of, item, items_from, aux_lines}
use Rattle.bt_bib.specs.inner.Cases.{if_counted}

abbrev pub IsWhole : List (List ℕ) → Option AuxFault → Type 0
IsWhole [] None = ⊥
IsWhole [] (Some f) = Unit {0}
IsWhole (part ∷ []) None = Unit {0}
IsWhole (part ∷ []) (Some f) = ⊥
IsWhole (part ∷ other ∷ parts) end = ⊥

abbrev pub IsPartedAs : Command → List (List ℕ) → Option AuxFault → Type 0
IsPartedAs Citation parts end = Unit {0}
IsPartedAs Database parts end = Unit {0}
IsPartedAs Style parts end = IsWhole parts end
IsPartedAs Nested parts end = IsWhole parts end

abbrev pub AreParted : List AuxItem → Type 0
AreParted [] = Unit {0}
AreParted (i ∷ is) = IsPartedAs i.command i.parts i.fault × AreParted is

kept_whole : (o : Option AuxFault) (argument : List ℕ) → IsWhole (parts_kept o (argument ∷ [])) o
kept_whole None argument = tt
kept_whole (Some f) argument = tt

item_parted : (n : ℕ) (line : List ℕ) (c : Command) → IsPartedAs (item n line c).command (item n line c).parts (item n line c).fault
item_parted n line Citation = tt
item_parted n line Database = tt
item_parted n line Style = let rest = drop (length (opening_of Style)) line in kept_whole (fault_of rest) (inside rest)
item_parted n line Nested = let rest = drop (length (opening_of Nested)) line in kept_whole (fault_of rest) (inside rest)

counted_parted : (n : ℕ) (line : List ℕ) (o : Option Command) (later : List AuxItem) → AreParted later → AreParted (if_counted n line later o)
counted_parted n line None later h = h
counted_parted n line (Some c) later h = (item_parted n line c, h)

items_parted : (n : ℕ) (lines : List (List ℕ)) → AreParted (items_from n lines)
items_parted n [] = tt
items_parted n (l ∷ ls) = counted_parted n (trimmed_end l) (command_of (trimmed_end l)) (items_from (n + 1) ls) (items_parted (n + 1) ls)

pub lines_parted : (text : List ℕ) → AreParted (aux_lines text)
unfolding aux_lines
lines_parted text = items_parted 1 (slice_split is_line_feed text)
