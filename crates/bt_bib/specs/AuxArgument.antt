-- The argument of a command in an .aux text: its parts, and what is wrong with it.
use Rattle.std.specs.Prelude.{ℕ, ◌-◌, Bool, ◌==◌, ◌||◌, List, [], ◌∷◌, length, take, drop, Option, Some, None, if◌then◌else◌}
use Rattle.std.specs.List.{slice_split, before_first}
use Rattle.bt_text.specs.ByteTests.{is_white}
use Rattle.bt_bib.specs.declared.aux_argument.AuxFault.{AuxFault}
use Rattle.bt_bib.specs.declared.aux_argument.AuxFault.TheVariants.{NoBrace, WhiteSpace, StuffAfter}
use Rattle.bt_bib.specs.declared.aux_argument.Parting.{Parting}
use Rattle.bt_bib.specs.declared.aux_argument.Parting.TheVariants.{Commas, Whole}

-- what ends an argument: a closing brace, or white space
abbrev pub ends_argument : ℕ → Bool
ends_argument b = b == 125 || is_white b

-- the argument: the bytes before the first such byte
abbrev pub inside : List ℕ → List ℕ
inside rest = before_first ends_argument rest

-- that byte and what follows it
abbrev pub after_argument : List ℕ → List ℕ
after_argument rest = drop (length (inside rest)) rest

-- the parts of an argument
abbrev pub parts_in : Parting → List ℕ → List (List ℕ)
parts_in Commas argument = slice_split (λ b. b == 44) argument
parts_in Whole argument = argument ∷ []

-- What is wrong, judged by what ends the argument and what follows that: a brace must be the last byte of its line.
abbrev pub fault_at : List ℕ → Option AuxFault
fault_at [] = Some NoBrace
fault_at (b ∷ bs) = if is_white b then Some WhiteSpace else elim bs [ [] ↦ None | c ∷ cs ↦ Some StuffAfter ]

-- a fault drops the last part
abbrev pub parts_kept : Option AuxFault → List (List ℕ) → List (List ℕ)
parts_kept None parts = parts
parts_kept (Some fault) parts = take (length parts - 1) parts

-- the fault of the argument with which this text, after a command's opening brace, begins
abbrev pub fault_of : List ℕ → Option AuxFault
fault_of rest = fault_at (after_argument rest)

abbrev pub argument_parts : Parting → List ℕ → List (List ℕ)
argument_parts parting rest = parts_kept (fault_of rest) (parts_in parting (inside rest))
