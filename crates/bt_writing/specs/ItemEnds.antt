-- What the text around a fault shows of the part that is missing there.
use Rattle.std.specs.Prelude.{ℕ, ◌+◌, ◌-◌, ◌==◌, ◌||◌, Bool, false, if◌then◌else◌, List, [], ◌∷◌, length}
use Rattle.bt_text.specs.ByteTests.{is_white}
use Rattle.bt_text.specs.NameBytes.{is_name_byte}
use Rattle.bt_text.specs.White.{trimmed_end}
use Rattle.bt_mentions.specs.Databases.{part}
use Rattle.bt_places.specs.Hover.{keys_at_end}

-- whether a text begins with a field: with a name and a `=`
abbrev pub begins_field : List ℕ → Bool
begins_field [] = false
begins_field (b ∷ t) = if is_name_byte b || is_white b then begins_field t else b == 61

abbrev pub is_line_end : ℕ → Bool
is_line_end b = b == 10

-- where the last word of a part of a text begins; white space may follow the word
abbrev pub last_word : List ℕ → ℕ → ℕ → ℕ
last_word text start end =
    let solid = trimmed_end (part start end text) in
    start + (length solid - keys_at_end 0 solid)
