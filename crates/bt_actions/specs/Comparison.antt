-- The results of functions that take values of several kinds: `=` and `empty$`.
use Rattle.std.specs.Prelude.{ℕ, Bool, true, bytes_eq, List, Option, Some, None}
use Rattle.std.specs.List.{list_all}
use Rattle.std.specs.Ordering.{int_eq}
use Rattle.bt_style.specs.declared.builtin.Builtin.TheVariants.{Equals}
use Rattle.bt_text.specs.ByteTests.{is_white}
use Rattle.bt_actions.specs.declared.complaint.Complaint.TheVariants.{WrongKind}
use Rattle.bt_actions.specs.Item.{Item, Num, Txt}
use Rattle.bt_actions.specs.Given.{Given, Gives, Errs, truth, zero_item}

-- whether two numbers or two texts are equal; any other two values are of the wrong kind
abbrev pub equality_of : Item × Item → Given
equality_of (Num n, Num m) = Gives (truth (int_eq n m))
equality_of (Txt t, Txt u) = Gives (truth (bytes_eq t u))
equality_of (v, u) = Errs (WrongKind Equals) zero_item

-- whether it is a missing field, or a text with nothing but white space
abbrev pub is_blank : Option (List ℕ) → Bool
is_blank None = true
is_blank (Some t) = list_all is_white t
