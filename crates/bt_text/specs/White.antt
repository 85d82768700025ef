-- Runs of white space.
use Rattle.std.specs.Prelude.{ℕ, Bool, false, ◌-◌, nat_lt, if◌then◌else◌, List, [], ◌∷◌, ◌++◌, length, take}
use Rattle.std.specs.List.{suffix_len}
use Rattle.bt_text.specs.ByteTests.{is_white, space}

-- whether a text ends in a byte that passes the test
abbrev pub ends_in : (ℕ → Bool) → List ℕ → Bool
ends_in test t = nat_lt 0 (suffix_len test t)

-- a text without the white space at its end
abbrev pub trimmed_end : List ℕ → List ℕ
trimmed_end t = take (length t - suffix_len is_white t) t

abbrev pub begins_white : List ℕ → Bool
begins_white [] = false
begins_white (b ∷ t) = is_white b

-- Each run of white space is made one space, in the place of its last byte.
abbrev pub white_joined : List ℕ → List ℕ
white_joined [] = []
white_joined (b ∷ t) =
    (if is_white b then (if begins_white t then [] else space ∷ []) else b ∷ []) ++ white_joined t
