-- How a group spells tokens, and what it puts between them.
use Rattle.std.specs.Prelude.{Bool, true, false, ℕ, List}
use Rattle.bt_names.specs.declared.tokens.Token.{Token}
use Rattle.bt_names.specs.declared.spelling.Form.{Form}
use Rattle.bt_names.specs.declared.spelling.Form.TheVariants.{Whole, Initials}
use Rattle.bt_names.specs.Joints.{Between, by_signs, by_text}
use Rattle.bt_names.specs.inner.Cases.{by_initial}

abbrev pub form_of : Bool → Form
form_of true = Whole
form_of false = Initials

abbrev pub spell : Bool → Token → Token
spell true w = w
spell false w = by_initial w

-- a text of the group's own, or signs
abbrev pub between_of : Bool → List ℕ → Bool → Between
between_of true text whole = by_text text
between_of false text whole = by_signs (form_of whole)
