-- A text as a sentence.
use Rattle.std.specs.Prelude.{ℕ, Bool, false, ◌||◌, not, ◌==◌, if◌then◌else◌, List, [], ◌∷◌, ◌++◌, Option, None, Some, filter}
use Rattle.std.specs.List.{last_or}
use Rattle.bt_text.specs.ByteTests.{full_stop, right_brace}

-- a full stop, a question mark or an exclamation mark
abbrev pub ends_sentence : Option ℕ → Bool
ends_sentence None = false
ends_sentence (Some b) = b == full_stop || b == 63 || b == 33

-- The text with a full stop after it, unless it is empty or its last byte other than a right brace ends a sentence.
abbrev pub with_period : List ℕ → List ℕ
with_period [] = []
with_period (b ∷ t) =
    if ends_sentence (last_or None (filter (λ c. not (c == right_brace)) (b ∷ t))) then b ∷ t
    else b ∷ t ++ full_stop ∷ []
