-- The parts of a text: its first text characters, and some of its bytes.
use Rattle.std.specs.Prelude.{ℕ, zero, suc, ◌-◌, if◌then◌else◌, ℤ, pos, negsuc, List, [], ◌∷◌, ◌++◌, length, take, drop, replicate, flat_map}
use Rattle.bt_text.specs.ByteTests.{right_brace}
use Rattle.bt_text.specs.Depth.{depth}
use Rattle.bt_text.specs.Pieces.{Piece, pieces, bytes_of, is_character}

-- the pieces up to the n-th text character, with it, or all if there are fewer
abbrev pub first_characters : ℕ → List Piece → List Piece
first_characters n [] = []
first_characters zero (p ∷ ps) = []
first_characters (suc n) (p ∷ ps) = p ∷ first_characters (if is_character p then n else suc n) ps

-- a text, and a right brace for each brace that it leaves open
abbrev pub closed : List ℕ → List ℕ
closed t = t ++ replicate (depth t) right_brace

abbrev pub text_prefix_of : List ℕ → ℤ → List ℕ
text_prefix_of t (pos n) = closed (flat_map bytes_of (first_characters n (pieces t)))
text_prefix_of t (negsuc n) = []

-- the last n bytes, or all if there are fewer
abbrev pub last_bytes : ℕ → List ℕ → List ℕ
last_bytes n t = drop (length t - n) t

-- At start i + 1 at most n bytes from place i on; at start -(i + 1) at most n bytes that end with the byte
-- that has i bytes after it; at any other start or length nothing.
abbrev pub substring_of : List ℕ → ℤ → ℤ → List ℕ
substring_of t (pos zero) n = []
substring_of t (pos (suc i)) (pos n) = take n (drop i t)
substring_of t (negsuc i) (pos n) = last_bytes n (take (length t - i) t)
substring_of t start (negsuc n) = []
