-- Parts of rules, for the functions and lemmas that speak of them.
use Rattle.std.specs.Prelude.{ℕ, ℤ, pos, ◌+ℤ◌, ◌-ℤ◌, int_lt, List, Option, ◌++◌, length}
use Rattle.std.specs.Option.{is_none}
use Rattle.std.specs.Fmt.{signed_decimal}
use Rattle.bt_style.specs.declared.builtin.Builtin.TheVariants.{Plus, Minus, TextLength, Width, NumNames}
use Rattle.bt_actions.specs.declared.complaint.Complaint.TheVariants.{Shown, Warned}
use Rattle.bt_actions.specs.Item.{Txt, Item}
use Rattle.bt_actions.specs.Given.{Given, Gives, number_given, truth}
use Rattle.bt_actions.specs.Comparison.{is_blank}
use Rattle.bt_text.specs.Substrings.{text_prefix_of, substring_of}
use Rattle.bt_text.specs.Length.{text_length_of}
use Rattle.bt_text.specs.Period.{with_period}
use Rattle.bt_text.specs.Purification.{purified}
use Rattle.bt_text.specs.Widths.{width_of}
use Rattle.bt_names.specs.Names.{names_of}
use Rattle.bt_actions.specs.declared.entry.Entry.{Entry}
use Rattle.bt_actions.specs.World.{World, say}
use Rattle.bt_style.specs.Program.{Program}
use Rattle.bt_actions.specs.LogLines.{shown_value}

abbrev pub greater_of : ℤ × ℤ → Given
greater_of (n, m) = Gives (truth (int_lt m n))

abbrev pub less_of : ℤ × ℤ → Given
less_of (n, m) = Gives (truth (int_lt n m))

abbrev pub sum_of : ℤ × ℤ → Given
sum_of (n, m) = number_given Plus (n +ℤ m)

abbrev pub difference_of : ℤ × ℤ → Given
difference_of (n, m) = number_given Minus (n -ℤ m)

-- a number in decimal digits, after a minus sign if it is negative
abbrev pub digits_text : ℤ → Given
digits_text n = Gives (Txt (signed_decimal n))

abbrev pub emptiness_of : Option (List ℕ) → Given
emptiness_of o = Gives (truth (is_blank o))

abbrev pub missing_of : Option (List ℕ) → Given
missing_of o = Gives (truth (is_none o))

abbrev pub join_of : List ℕ × List ℕ → Given
join_of (t, u) = Gives (Txt (t ++ u))

abbrev pub period_of : List ℕ → Given
period_of t = Gives (Txt (with_period t))

abbrev pub purified_of : List ℕ → Given
purified_of t = Gives (Txt (purified t))

abbrev pub substring_given : List ℕ × ℤ × ℤ → Given
substring_given (t, start, len) = Gives (Txt (substring_of t start len))

abbrev pub prefix_of : List ℕ × ℤ → Given
prefix_of (t, n) = Gives (Txt (text_prefix_of t n))

abbrev pub length_of : List ℕ → Given
length_of t = number_given TextLength (pos (text_length_of t))

abbrev pub width_given : List ℕ → Given
width_given t = number_given Width (pos (width_of t))

-- how many names there are
abbrev pub names_counted : List ℕ → Given
names_counted t = number_given NumNames (pos (length (names_of t)))

-- its key
abbrev pub key_item : Entry → Item
key_item e = Txt e.key

-- a value is logged
abbrev pub log_value : Program → Item → World → World
log_value p v w = say (Shown (shown_value p v)) w

-- a warning of the style
abbrev pub log_warning : List ℕ → World → World
log_warning t w = say (Warned t) w
