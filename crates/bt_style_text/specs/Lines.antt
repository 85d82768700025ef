-- The first lines of a text.
use Rattle.std.specs.Prelude.{ℕ, suc, ◌-◌, nat_le, if◌then◌else◌, List, [], ◌∷◌, take}
use Rattle.bt_text.specs.ByteTests.{is_line_feed}

-- how many bytes stand before the line feed of this number, from 1; all if there are fewer
abbrev pub lines_len : ℕ → List ℕ → ℕ
lines_len most [] = 0
lines_len most (b ∷ bytes) =
    if is_line_feed b then (if nat_le most 1 then 0 else suc (lines_len (most - 1) bytes))
    else suc (lines_len most bytes)

-- the first lines, without the last one's line feed
abbrev pub first_lines : ℕ → List ℕ → List ℕ
first_lines most bytes = take (lines_len most bytes) bytes
