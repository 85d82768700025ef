-- What a function of its arguments gives is a number or a text: it has what every number and every text has.
use Rattle.std.proofs.Common.{ℕ, Bool, true, false, List, [], ◌∷◌, length, Option, Some, None}
use Rattle.std.specs.Prelude.{ℤ, pos, negsuc, Result, Ok, Err, if◌then◌else◌, nat_lt, ◌+ℤ◌, ◌-ℤ◌}
use Rattle.bt_style.specs.declared.builtin.Builtin.{Builtin as Primitive}
use Rattle.bt_style.specs.declared.builtin.Builtin.TheVariants as builtin
use Rattle.bt_text.specs.declared.modes.Mode.{Mode}
use Rattle.bt_text.specs.Length.{text_length_of}
use Rattle.bt_text.specs.Widths.{width_of}
use Rattle.bt_names.specs.Names.{names_of}
use Rattle.bt_names.specs.declared.faults.FormatFault.{FormatFault}
use Rattle.bt_names.specs.declared.faults.FormatFault.TheVariants as fault
use Rattle.bt_actions.specs.Item.{Item, Num, Txt}
use Rattle.bt_actions.specs.Given.{Given, Gives, Errs, zero_item, empty_item, fits_number, number_given, truth}
use Rattle.bt_actions.specs.Numbers.{byte_number, ascii_text}
use Rattle.bt_actions.specs.inner.Rows.{greater_of, less_of, sum_of, difference_of, digits_text, emptiness_of, missing_of, join_of, period_of, purified_of, substring_given, prefix_of, length_of, width_given, names_counted}
use Rattle.bt_actions.specs.Comparison.{equality_of}
use Rattle.bt_actions.specs.Texts.{case_of, case_by, mode_of}
use Rattle.bt_actions.specs.Names.{name_formatted, format_given}

module _ (P : Item → Type 0) (numbers : (n : ℤ) → P (Num n)) (texts : (t : List ℕ) → P (Txt t)) where
  -- the value that is given
  abbrev pub GivenHas : Given → Type 0
  GivenHas (Gives v) = P v
  GivenHas (Errs m v) = P v

  truth_has : (c : Bool) → P (truth c)
  truth_has true = numbers (pos 1)
  truth_has false = numbers (pos 0)

  given_if : (c : Bool) (g g' : Given) → GivenHas g → GivenHas g' → GivenHas (if c then g else g')
  given_if true g g' h i = h
  given_if false g g' h i = i

  number_has : (b : Primitive) (n : ℤ) → GivenHas (number_given b n)
  number_has b n = given_if (fits_number n) (Gives (Num n)) (Errs _ zero_item) (numbers n) (numbers (pos 0))

  pub greater_has : (a : ℤ × ℤ) → GivenHas (greater_of a)
  greater_has a = truth_has _

  pub less_has : (a : ℤ × ℤ) → GivenHas (less_of a)
  less_has a = truth_has _

  pub equality_has : (a : Item × Item) → GivenHas (equality_of a)
  equality_has (Num n, Num m) = truth_has _
  equality_has (Txt t, Txt u) = truth_has _
  equality_has (v, u) = numbers (pos 0)

  pub sum_has : (a : ℤ × ℤ) → GivenHas (sum_of a)
  sum_has a = number_has builtin.Plus (a.0 +ℤ a.1)

  pub difference_has : (a : ℤ × ℤ) → GivenHas (difference_of a)
  difference_has a = number_has builtin.Minus (a.0 -ℤ a.1)

  pub join_has : (a : List ℕ × List ℕ) → GivenHas (join_of a)
  join_has a = texts _

  pub period_has : (t : List ℕ) → GivenHas (period_of t)
  period_has t = texts _

  case_by_has : (o : Option Mode) (t name : List ℕ) → GivenHas (case_by o t name)
  case_by_has None t name = texts _
  case_by_has (Some mode) t name = texts _

  pub case_has : (a : List ℕ × List ℕ) → GivenHas (case_of a)
  case_has a = case_by_has (mode_of a.1) a.0 a.1

  pub byte_has : (t : List ℕ) → GivenHas (byte_number t)
  byte_has [] = numbers (pos 0)
  byte_has (c ∷ []) = numbers (pos c)
  byte_has (c ∷ d ∷ t) = numbers (pos 0)

  pub emptiness_has : (o : Option (List ℕ)) → GivenHas (emptiness_of o)
  emptiness_has o = truth_has _

  pub missing_has : (o : Option (List ℕ)) → GivenHas (missing_of o)
  missing_has o = truth_has _

  format_has : (names : List ℕ) (n : ℤ) (pattern : List ℕ) (r : Result (List ℕ) FormatFault) → GivenHas (format_given names n pattern r)
  format_has names n pattern (Ok t) = texts t
  format_has names n pattern (Err fault.NoSuchName) = texts []
  format_has names n pattern (Err fault.TooManyCommas) = texts []
  format_has names n pattern (Err (fault.PatternFault place)) = texts []
  format_has names n pattern (Err fault.OutOfMemory) = texts []

  pub name_has : (a : List ℕ × ℤ × List ℕ) → GivenHas (name_formatted a)
  name_has a = format_has a.0 a.1 a.2 _

  pub ascii_has : (n : ℤ) → GivenHas (ascii_text n)
  ascii_has (pos n) = given_if (nat_lt n 128) (Gives (Txt (n ∷ []))) (Errs _ empty_item) (texts (n ∷ [])) (texts [])
  ascii_has (negsuc n) = texts []

  pub digits_has : (n : ℤ) → GivenHas (digits_text n)
  digits_has n = texts _

  pub names_has : (t : List ℕ) → GivenHas (names_counted t)
  names_has t = number_has builtin.NumNames (pos (length (names_of t)))

  pub purified_has : (t : List ℕ) → GivenHas (purified_of t)
  purified_has t = texts _

  pub substring_has : (a : List ℕ × ℤ × ℤ) → GivenHas (substring_given a)
  substring_has a = texts _

  pub length_has : (t : List ℕ) → GivenHas (length_of t)
  length_has t = number_has builtin.TextLength (pos (text_length_of t))

  pub prefix_has : (a : List ℕ × ℤ) → GivenHas (prefix_of a)
  prefix_has a = texts _

  pub width_has : (t : List ℕ) → GivenHas (width_given t)
  width_has t = number_has builtin.Width (pos (width_of t))
