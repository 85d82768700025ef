-- Texts that match without regard to case.
use Rattle.std.specs.Prelude.{ℕ, Bool, List, bytes_eq, map}
use Rattle.std.specs.Char.{to_ascii_lowercase}

-- a text with small letters `a` to `z` for `A` to `Z`
abbrev pub folded : List ℕ → List ℕ
folded t = map to_ascii_lowercase t

-- equal but for the case of `A` to `Z`
abbrev pub is_same_folded : List ℕ → List ℕ → Bool
is_same_folded t u = bytes_eq (folded t) (folded u)
