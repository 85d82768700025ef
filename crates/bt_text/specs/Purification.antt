-- A text reduced to letters, digits and spaces.
use Rattle.std.specs.Prelude.{ℕ, ◌||◌, if◌then◌else◌, List, [], ◌∷◌, flat_map}
use Rattle.bt_text.specs.ByteTests.{is_white, is_letter, is_digit, is_separator, space}
use Rattle.bt_text.specs.Pieces.{Piece, special, brace, other, pieces}
use Rattle.bt_text.specs.Special.{Symbol, control, plain, symbols, letters_of}

-- what is kept of a byte: a letter or a digit is, white space and separators become a space
abbrev pub purified_byte : ℕ → List ℕ
purified_byte b =
    if is_letter b || is_digit b then b ∷ [] else (if is_white b || is_separator b then space ∷ [] else [])

-- what is kept in a special character: letters and digits, and the letters of a foreign control sequence
abbrev pub purified_symbol : Symbol → List ℕ
purified_symbol (control name gap) = letters_of name
purified_symbol (plain b) = if is_letter b || is_digit b then b ∷ [] else []

abbrev pub purified_piece : Piece → List ℕ
purified_piece (special s) = flat_map purified_symbol (symbols s)
purified_piece (brace b) = []
purified_piece (other b) = purified_byte b

abbrev pub purified : List ℕ → List ℕ
purified t = flat_map purified_piece (pieces t)
