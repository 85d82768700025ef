-- The tokens of a part one after another, with what goes between them.
use Rattle.std.specs.Prelude.{ℕ, Bool, nat_lt, ◌==◌, ◌||◌, if◌then◌else◌, List, [], ◌∷◌, ◌++◌, length}
use Rattle.bt_text.specs.ByteTests.{is_separator, full_stop, space, tie}
use Rattle.bt_text.specs.Length.{text_length_of}
use Rattle.bt_names.specs.declared.tokens.Token.{Token}
use Rattle.bt_names.specs.declared.spelling.Form.{Form}
use Rattle.bt_names.specs.declared.spelling.Form.TheVariants.{Whole, Initials}

-- what a group puts between two tokens: a text of its own, or signs
pub data Between : Type 0 where
  by_text : List ℕ → Between
  by_signs : Form → Between

-- fewer than 3 text characters
abbrev pub is_short : List ℕ → Bool
is_short out = nat_lt (text_length_of out) 3

-- An initial is followed by a full stop.
abbrev pub dotted : Form → List ℕ → List ℕ
dotted Whole out = out
dotted Initials out = out ++ full_stop ∷ []

-- what goes before the token w and those after it, where out is what the group has given so far: its own separator, or
-- a tie before the last token and after a short output, or a space
abbrev pub sign_before : List ℕ → Token → List Token → ℕ
sign_before out w rest =
    if is_separator w.before then w.before else (if length rest == 0 || is_short out then tie else space)

-- the output out, and the tokens after it in turn
abbrev pub joined : Between → List ℕ → List Token → List ℕ
joined between out [] = out
joined between out (w ∷ rest) =
    let link : List ℕ = elim between [
      | by_text text ↦ out ++ text
      | by_signs form ↦ dotted form out ++ sign_before (dotted form out) w rest ∷ []
    ] in
    joined between (link ++ w.text) rest
