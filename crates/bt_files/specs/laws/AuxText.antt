-- Which items a text of .aux lines can have, and that they are read from the text that is written from them.
use Rattle.std.specs.Prelude.{◌≡◌, ◌≤◌, ℕ, ◌+◌, ◌==◌, ◌||◌, ◌⊎◌, Bool, true, not, eqb, nat_le, List, [], ◌∷◌, length, map, codes, Option, Some, None, All}
use Rattle.std.specs.List.{list_all, ends_with}
use Rattle.bt_bib.specs.declared.aux_argument.AuxFault.{AuxFault}
use Rattle.bt_bib.specs.declared.aux_argument.Parting.{Parting}
use Rattle.bt_bib.specs.declared.aux_argument.Parting.TheVariants.{Commas, Whole}
use Rattle.bt_bib.specs.declared.aux_line.AuxItem.{AuxItem}
use Rattle.bt_bib.specs.AuxArgument.{ends_argument}
use Rattle.bt_bib.specs.AuxLine.{parting, aux_lines}
use Rattle.bt_job.specs.FileNames.{is_file_name_byte}
use Rattle.bt_files.specs.AuxText.{comma, item_with, names_in, written}

-- Which items a text can have

-- whether a byte can be in a part: it neither ends the argument nor parts it
abbrev pub is_part_byte : Parting → ℕ → Bool
is_part_byte Commas b = not (ends_argument b || b == comma)
is_part_byte Whole b = not (ends_argument b)

abbrev pub is_part : Parting → List ℕ → Bool
is_part p part = list_all (is_part_byte p) part

-- Whether an argument can have this number of parts: without a fault at least one; a fault drops one.
abbrev pub is_part_count : Parting → Option AuxFault → ℕ → Bool
is_part_count Commas None n = nat_le 1 n
is_part_count Commas (Some fault) n = true
is_part_count Whole None n = n == 1
is_part_count Whole (Some fault) n = n == 0

-- an item that a line can have
pub record IsWritableItem (i : AuxItem) : Type 0 where
  pub parts : All (λ part. is_part (parting i.command) part ≡ true) i.parts
  pub count : is_part_count (parting i.command) i.fault (length i.parts) ≡ true

-- items that a text can have from a line on: each is on a later line than the one before
abbrev pub IsWritableFrom : ℕ → List AuxItem → Type 0
IsWritableFrom line [] = Unit {0}
IsWritableFrom line (i ∷ is) = (line ≤ i.line) × IsWritableItem i × IsWritableFrom (i.line + 1) is

-- items that a text can have
unfoldable pub IsWritable : List AuxItem → Type 0
IsWritable items = IsWritableFrom 1 items

-- Other names

-- whether a name has only bytes that a session's name can have
abbrev pub has_name_bytes : List ℕ → Bool
has_name_bytes name = list_all is_file_name_byte name

-- Each name stays or becomes a session's.
abbrev pub GivesNames : (List ℕ → List ℕ) → Type 0
GivesNames f = (name : List ℕ) → (f name ≡ name) ⊎ (has_name_bytes (f name) ≡ true)

-- A name with this ending stays one.
abbrev pub KeepsEnding : (List ℕ → List ℕ) → List ℕ → Type 0
KeepsEnding f ending = (name : List ℕ) → ends_with eqb name ending ≡ true → ends_with eqb (f name) ending ≡ true

-- Laws

-- Reading the text that is written from items gives these items, if some text can have them.
abbrev pub WrittenItemsAreRead : Type 0
WrittenItemsAreRead = (items : List AuxItem) → IsWritable items → aux_lines (written items) ≡ items

-- The items that are read from a text can be written.
abbrev pub ReadItemsAreWritable : Type 0
ReadItemsAreWritable = (text : List ℕ) → IsWritable (aux_lines text)

-- Items that can be written can still be written when their files get other names.
abbrev pub RenamedItemsAreWritable : Type 0
RenamedItemsAreWritable = (f : List ℕ → List ℕ) (items : List AuxItem) → GivesNames f →
    IsWritable items → IsWritable (map (item_with f) items)

-- So reading the text that is written with other names of files gives the old items with these names.
abbrev pub RenamedItemsAreRead : Type 0
RenamedItemsAreRead = (f : List ℕ → List ℕ) (text : List ℕ) → GivesNames f →
    aux_lines (written (map (item_with f) (aux_lines text))) ≡ map (item_with f) (aux_lines text)

-- An item whose files get other names names its files by these, in the same order.
abbrev pub RenamedItemsNameFiles : Type 0
RenamedItemsNameFiles = (f : List ℕ → List ℕ) (i : AuxItem) → KeepsEnding f (codes ".bib") → KeepsEnding f (codes ".bst") →
    names_in (item_with f i) ≡ map f (names_in i)
