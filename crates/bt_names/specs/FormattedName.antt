-- The parts of the n-th name; that name formatted by a pattern; or why there is none.
use Rattle.std.specs.Prelude.{◌≡◌, ℤ, ℕ, List, None, Some, Result, Ok, Err, IsOk}
use Rattle.bt_names.specs.declared.tokens.Parts.{Parts}
use Rattle.bt_names.specs.declared.faults.NameFault.{NameFault}
use Rattle.bt_names.specs.declared.faults.NameFault.TheVariants.{NoSuchName as no_such_name, TooManyCommas as too_many_commas, OutOfMemory as no_memory}
use Rattle.bt_names.specs.declared.faults.FormatFault.{FormatFault}
use Rattle.bt_names.specs.declared.faults.FormatFault.TheVariants.{NoSuchName, TooManyCommas, PatternFault, OutOfMemory}
use Rattle.bt_names.specs.Names.{name_at}
use Rattle.bt_names.specs.NameParts.{parts_of}
use Rattle.bt_names.specs.Patterns.{pattern_fault}
use Rattle.bt_names.specs.Groups.{formatted}

-- the parts of the n-th name, or the first fault
unfoldable pub name_parts : List ℕ → ℤ → Result Parts NameFault
name_parts names n = elim (name_at names n) [
  | None ↦ Err no_such_name
  | Some name ↦ elim (parts_of name) [ None ↦ Err too_many_commas | Some parts ↦ Ok parts ]
]

-- A fault is reported as it is. Out of memory is reported only if there is no other fault.
abbrev pub IsNameFault : Result Parts NameFault → NameFault → Type 0
IsNameFault r no_memory = IsOk r
IsNameFault r no_such_name = r ≡ Err no_such_name
IsNameFault r too_many_commas = r ≡ Err too_many_commas

-- the n-th name formatted by a pattern, or the first fault
unfoldable pub formatted_name : List ℕ → ℤ → List ℕ → Result (List ℕ) FormatFault
formatted_name names n pattern = elim (name_at names n) [
  | None ↦ Err NoSuchName
  | Some name ↦ elim (parts_of name) [
    | None ↦ Err TooManyCommas
    | Some parts ↦ elim (pattern_fault pattern) [
      | Some place ↦ Err (PatternFault place)
      | None ↦ Ok (formatted parts pattern)
    ]
  ]
]

-- A fault is reported as it is. Out of memory is reported only if there is no other fault.
abbrev pub IsFormatFault : Result (List ℕ) FormatFault → FormatFault → Type 0
IsFormatFault r OutOfMemory = IsOk r
IsFormatFault r NoSuchName = r ≡ Err NoSuchName
IsFormatFault r TooManyCommas = r ≡ Err TooManyCommas
IsFormatFault r (PatternFault place) = r ≡ Err (PatternFault place)
