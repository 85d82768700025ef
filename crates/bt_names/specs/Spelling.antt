-- How a pattern spells the tokens of a part: whole, or by their initials.
use Rattle.std.specs.Prelude.{ℕ, if◌then◌else◌, List, [], ◌∷◌, map, slice_index_or}
use Rattle.bt_text.specs.Blocks.{blocks, begins_special}
use Rattle.bt_text.specs.ByteTests.{is_letter}
use Rattle.bt_names.specs.declared.tokens.Token.{Token}
use Rattle.bt_names.specs.declared.spelling.Form.{Form}
use Rattle.bt_names.specs.declared.spelling.Form.TheVariants.{Whole, Initials}

abbrev pub first_block : List ℕ → List ℕ
first_block t = slice_index_or (blocks t) 0 []

-- the first letter at any depth, or the group of the first left brace that has a backslash after it, whichever begins
-- first
abbrev pub initial : List ℕ → List ℕ
initial [] = []
initial (b ∷ t) = if is_letter b then b ∷ [] else (if begins_special (b ∷ t) then first_block (b ∷ t) else initial t)

-- some tokens in this form
abbrev pub spelled : Form → List Token → List Token
spelled Whole ws = ws
spelled Initials ws = map (λ w. record { text = initial w.text; before = w.before }) ws
