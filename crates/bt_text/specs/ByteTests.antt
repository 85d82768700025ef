-- Bytes with a name of their own, and tests on bytes.
use Rattle.std.specs.Prelude.{ℕ, Bool, ◌||◌, ◌&&◌, nat_le, ◌==◌}

abbrev pub space : ℕ
space = 32

abbrev pub hyphen : ℕ
hyphen = 45

abbrev pub full_stop : ℕ
full_stop = 46

abbrev pub backslash : ℕ
backslash = 92

abbrev pub left_brace : ℕ
left_brace = 123

abbrev pub right_brace : ℕ
right_brace = 125

abbrev pub tie : ℕ
tie = 126

-- a byte from low to high
abbrev pub is_within : ℕ → ℕ → ℕ → Bool
is_within low high b = nat_le low b && nat_le b high

abbrev pub is_line_feed : ℕ → Bool
is_line_feed b = b == 10

-- tab, line feed, carriage return, space
abbrev pub is_white : ℕ → Bool
is_white b = b == 9 || b == 10 || b == 13 || b == 32

-- `a` to `z`, `A` to `Z`: the letters that have a case
abbrev pub is_small : ℕ → Bool
is_small b = is_within 97 122 b

abbrev pub is_large : ℕ → Bool
is_large b = is_within 65 90 b

-- The bytes from 128 on are letters without a case.
abbrev pub is_letter : ℕ → Bool
is_letter b = is_small b || is_large b || nat_le 128 b

abbrev pub is_digit : ℕ → Bool
is_digit b = is_within 48 57 b

-- the two bytes that separate the words of a name, as white space does
abbrev pub is_separator : ℕ → Bool
is_separator b = b == tie || b == hyphen

abbrev pub is_brace : ℕ → Bool
is_brace b = b == left_brace || b == right_brace
