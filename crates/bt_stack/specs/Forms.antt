-- What functions of values give, as the code has it.
use Rattle.std.specs.Prelude.{ℤ, Option, Some, None, Result, Ok, Err, List, ℕ}
use Rattle.bt_actions.specs.declared.complaint.Complaint.{Complaint}
use Rattle.bt_actions.specs.Item.{Num, Txt}
use Rattle.bt_actions.specs.Given.{Given, Gives, Errs, zero_item, empty_item}

-- a number, or an error with 0 in its place
abbrev pub number_or_error : Result ℤ Complaint → Given
number_or_error (Ok n) = Gives (Num n)
number_or_error (Err m) = Errs m zero_item

-- a text that is always there
abbrev pub text_given : (List ℕ → List ℕ) → List ℕ → Given
text_given value t = Gives (Txt (value t))

-- a text, or an error with the empty text in its place
abbrev pub text_or_error : Option Complaint → List ℕ → Given
text_or_error None t = Gives (Txt t)
text_or_error (Some m) t = Errs m empty_item
