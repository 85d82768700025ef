-- The result of `format.name$`.
use Rattle.std.specs.Prelude.{ℕ, ℤ, List, Result, Ok, Err}
use Rattle.bt_names.specs.declared.faults.FormatFault.{FormatFault}
use Rattle.bt_names.specs.declared.faults.FormatFault.TheVariants as fault
use Rattle.bt_names.specs.FormattedName.{formatted_name}
use Rattle.bt_actions.specs.declared.complaint.Complaint.TheVariants.{NoSuchName, TooManyCommas, PatternFault}
use Rattle.bt_actions.specs.Item.{Txt}
use Rattle.bt_actions.specs.Given.{Given, Gives, Errs, empty_item}

-- The formatted name, or the error for what is wrong with the names or the pattern. No definition gives `OutOfMemory`.
abbrev pub format_given : List ℕ → ℤ → List ℕ → Result (List ℕ) FormatFault → Given
format_given names n pattern (Ok t) = Gives (Txt t)
format_given names n pattern (Err fault.NoSuchName) = Errs (NoSuchName n names) empty_item
format_given names n pattern (Err fault.TooManyCommas) = Errs (TooManyCommas n names) empty_item
format_given names n pattern (Err (fault.PatternFault place)) = Errs (PatternFault pattern place) empty_item
format_given names n pattern (Err fault.OutOfMemory) = Gives empty_item

-- the n-th of some names, formatted by a pattern
abbrev pub name_formatted : List ℕ × ℤ × List ℕ → Given
name_formatted (names, n, pattern) = format_given names n pattern (formatted_name names n pattern)
