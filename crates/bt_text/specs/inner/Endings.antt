-- The end of a text.
use Rattle.std.specs.Prelude.{ℕ, ◌==◌, not, List, Option, None, filter}
use Rattle.std.specs.List.{last_or}
use Rattle.bt_text.specs.ByteTests.{right_brace}

-- the last byte that is no right brace
abbrev pub last_counting : List ℕ → Option ℕ
last_counting t = last_or None (filter (λ b. not (b == right_brace)) t)
