-- The results of `chr.to.int$` and `int.to.chr$`.
use Rattle.std.specs.Prelude.{ℕ, ℤ, pos, negsuc, nat_lt, if◌then◌else◌, List, [], ◌∷◌}
use Rattle.bt_actions.specs.declared.complaint.Complaint.TheVariants.{NotOneCharacter, NotAscii}
use Rattle.bt_actions.specs.Item.{Num, Txt}
use Rattle.bt_actions.specs.Given.{Given, Gives, Errs, zero_item, empty_item}

-- the number of a text's only byte
abbrev pub byte_number : List ℕ → Given
byte_number (b ∷ []) = Gives (Num (pos b))
byte_number t = Errs (NotOneCharacter t) zero_item

-- the byte of a number, as a text
abbrev pub ascii_text : ℤ → Given
ascii_text (pos n) = if nat_lt n 128 then Gives (Txt (n ∷ [])) else Errs (NotAscii (pos n)) empty_item
ascii_text (negsuc n) = Errs (NotAscii (negsuc n)) empty_item
