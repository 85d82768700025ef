-- The bytes of a text in its file.
use Rattle.std.specs.Prelude.{ℕ, nat_lt, Bool, true, false, if◌then◌else◌, List, map}
use Rattle.std.specs.List.{list_all}
use Rattle.std.specs.Str.{chars}
use Rattle.bt_positions.specs.declared.counting.Counting.{Counting}
use Rattle.bt_positions.specs.declared.counting.Counting.TheVariants.{Utf8, Utf16, LatinAsUtf8, LatinAsUtf16}

-- the units of an editor that counts bytes or units of UTF-16, in a text that isn't known to be in Latin-1
abbrev pub counting_of : Bool → Counting
counting_of counts_bytes = if counts_bytes then Utf8 else Utf16

-- the same in a text that may be in Latin-1
abbrev pub counting_for : Bool → Bool → Counting
counting_for true true = LatinAsUtf8
counting_for true false = Utf8
counting_for false true = LatinAsUtf16
counting_for false false = Utf16

-- a character's byte in Latin-1; a question mark if it has none
abbrev pub latin_of : ℕ → ℕ
latin_of letter = if nat_lt letter 256 then letter else 63

-- the bytes that saving a text would write
abbrev pub bytes_of : Counting → List ℕ → List ℕ
bytes_of Utf8 text = text
bytes_of Utf16 text = text
bytes_of LatinAsUtf8 text = map latin_of (chars text)
bytes_of LatinAsUtf16 text = map latin_of (chars text)

-- whether Latin-1 has all letters of a text
abbrev pub fits_latin : List ℕ → Bool
fits_latin text = list_all (λ letter. nat_lt letter 256) (chars text)
