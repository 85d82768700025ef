-- Bytes and what is shown of them.
use Rattle.std.proofs.Common.{◌≡◌, [], ◌∷◌, refl}
use Rattle.std.specs.Char.{encode_utf8}
use Rattle.std.specs.Str.{is_utf8, chars}
use Rattle.std.specs.Str.Lossy.{utf8_valid_len, utf8_error_len}
use Rattle.bt_shapes.specs.Text.{as_utf8}

-- M, u with two dots in Latin-1, l, and the same letter in UTF-8
both_forms : as_utf8 (77 ∷ 252 ∷ 108 ∷ 195 ∷ 188 ∷ []) ≡ 77 ∷ 195 ∷ 188 ∷ 108 ∷ 195 ∷ 188 ∷ []
unfolding as_utf8 utf8_valid_len utf8_error_len is_utf8 chars encode_utf8
both_forms = refl
