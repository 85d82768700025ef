-- The number of text characters.
use Rattle.std.specs.Prelude.{ℕ, List, count_by}
use Rattle.bt_text.specs.Pieces.{pieces, is_character}

abbrev pub text_length_of : List ℕ → ℕ
text_length_of t = count_by is_character (pieces t)
