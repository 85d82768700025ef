-- The bytes that names are made of.
use Rattle.std.specs.Prelude.{ℕ, Bool, false, ◌&&◌, not, nat_le, ◌==◌, codes, List, [], ◌∷◌, take_while, if◌then◌else◌}
use Rattle.std.specs.List.{list_all, list_any}
use Rattle.bt_text.specs.ByteTests.{is_digit}

-- A byte from 33 on, but for ten signs.
abbrev pub is_name_byte : ℕ → Bool
is_name_byte b = nat_le 33 b && not (list_any (λ sign. sign == b) (codes "\"#%'(),={}"))

-- The name that a text begins with: the longest run of name bytes, unless it begins with a digit.
abbrev pub name_at_start : List ℕ → List ℕ
name_at_start [] = []
name_at_start (b ∷ t) = if is_digit b then [] else take_while is_name_byte (b ∷ t)

-- a whole name: one byte or more, name bytes alone, and the first one no digit
abbrev pub is_name : List ℕ → Bool
is_name [] = false
is_name (b ∷ t) = not (is_digit b) && list_all is_name_byte (b ∷ t)
