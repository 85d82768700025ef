-- What is kept of a byte outside special characters, as one byte.
use Rattle.std.specs.Prelude.{ℕ, ◌||◌, if◌then◌else◌}
use Rattle.bt_text.specs.ByteTests.{is_digit, is_letter, is_separator, is_white, space}

-- A letter or a digit is kept, white space and separators become a space, and 0 stands for nothing.
abbrev pub kept_code : ℕ → ℕ
kept_code b = if is_letter b || is_digit b then b else (if is_white b || is_separator b then space else 0)
