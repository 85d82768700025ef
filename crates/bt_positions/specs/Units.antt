-- The units that an editor counts.
use Rattle.std.specs.Prelude.{ℕ, suc, nat_lt, ◌+◌, ◌-◌, if◌then◌else◌, List, [], ◌∷◌}
use Rattle.bt_positions.specs.declared.counting.Counting.{Counting}
use Rattle.bt_positions.specs.declared.counting.Counting.TheVariants.{Utf8, Utf16, LatinAsUtf8, LatinAsUtf16}

-- The units of a byte. In UTF-16 the first byte of a character has those of the whole character, 2 if that has four
-- bytes, and its other bytes have none.
abbrev pub units : Counting → ℕ → ℕ
units Utf8 b = 1
units Utf16 b = if nat_lt b 128 then 1 else if nat_lt b 192 then 0 else if nat_lt b 240 then 1 else 2
units LatinAsUtf8 b = if nat_lt b 128 then 1 else 2
units LatinAsUtf16 b = 1

-- the units of a text
abbrev pub width : Counting → List ℕ → ℕ
width c [] = 0
width c (b ∷ t) = units c b + width c t

-- how many bytes of a line precede a character: as many as fit into n units
abbrev pub fitting : Counting → ℕ → List ℕ → ℕ
fitting c n [] = 0
fitting c n (b ∷ t) = if nat_lt n (units c b) then 0 else suc (fitting c (n - units c b) t)
