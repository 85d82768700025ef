-- Parts of rules, for the functions and lemmas that speak of them.
use Rattle.std.specs.Prelude.{ℕ, ◌==◌, Bool, List, [], ◌∷◌, ◌++◌, Option, None, Some, Result, Ok, Err}
use Rattle.bt_names.specs.declared.tokens.Token.{Token}
use Rattle.bt_names.specs.declared.tokens.Parts.{Parts}
use Rattle.bt_names.specs.declared.faults.NameFault.{NameFault}
use Rattle.bt_names.specs.declared.faults.NameFault.TheVariants.{NoSuchName as no_such_name, TooManyCommas as too_many_commas}
use Rattle.bt_names.specs.declared.faults.FormatFault.{FormatFault}
use Rattle.bt_names.specs.declared.faults.FormatFault.TheVariants.{NoSuchName, TooManyCommas, PatternFault}
use Rattle.bt_names.specs.Cuts.{Run, comma, is_single}
use Rattle.bt_names.specs.NameParts.{parts_of}
use Rattle.bt_names.specs.Patterns.{pattern_fault}
use Rattle.bt_names.specs.Spelling.{initial}
use Rattle.bt_names.specs.Groups.{formatted}

abbrev pub is_comma : List ℕ → Bool
is_comma block = is_single (λ b. b == comma) block

-- a gap before some runs
abbrev pub onto_gap : List ℕ → List Run → List Run
onto_gap block [] = []
onto_gap block (r ∷ rs) = record { gap = block ++ r.gap; text = r.text } ∷ rs

abbrev pub by_initial : Token → Token
by_initial w = record { text = initial w.text; before = w.before }

abbrev pub parts_or_fault : Option Parts → Result Parts NameFault
parts_or_fault None = Err too_many_commas
parts_or_fault (Some parts) = Ok parts

abbrev pub name_parts_or_fault : Option (List ℕ) → Result Parts NameFault
name_parts_or_fault None = Err no_such_name
name_parts_or_fault (Some name) = parts_or_fault (parts_of name)

abbrev pub text_or_fault : Parts → List ℕ → Option ℕ → Result (List ℕ) FormatFault
text_or_fault parts pattern (Some place) = Err (PatternFault place)
text_or_fault parts pattern None = Ok (formatted parts pattern)

abbrev pub formatted_parts : List ℕ → Option Parts → Result (List ℕ) FormatFault
formatted_parts pattern None = Err TooManyCommas
formatted_parts pattern (Some parts) = text_or_fault parts pattern (pattern_fault pattern)

abbrev pub formatted_or_fault : List ℕ → Option (List ℕ) → Result (List ℕ) FormatFault
formatted_or_fault pattern None = Err NoSuchName
formatted_or_fault pattern (Some name) = formatted_parts pattern (parts_of name)
