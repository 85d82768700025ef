-- What a header says of the length of the body.
use Rattle.std.specs.Prelude.{◌≡◌, ◌<◌, ℕ, nat_le, nat_lt, ◌-◌, ◌&&◌, ◌==◌, Bool, true, false, if◌then◌else◌, List, [], ◌∷◌, ◌++◌, length, take, drop, codes, slice_index_or, Option, Some, None}
use Rattle.std.specs.List.{fold, AllByRecursion}
use Rattle.std.specs.Str.{str_eq_ignore_ascii_case}
use Rattle.bt_streams.specs.Reads.{HasNoFeed}
use Rattle.bt_streams.specs.Numbers.{number_of}

-- a text without the spaces at its front
abbrev pub behind_spaces : List ℕ → List ℕ
behind_spaces [] = []
behind_spaces (b ∷ t) = if b == 32 then behind_spaces t else b ∷ t

-- how long a line of a header says that the body is, if it says that
abbrev pub length_of : List ℕ → Option ℕ
length_of line =
    if nat_le 15 (length line) && str_eq_ignore_ascii_case (take 15 line) (codes "content-length:")
    then number_of (behind_spaces (drop 15 line)) else None

-- a line without the CR at its end
abbrev pub without_cr : List ℕ → List ℕ
without_cr line = if slice_index_or line (length line - 1) 0 == 13 then take (length line - 1) line else line

-- what is known of the length after a line; one of more than 255 bytes says nothing
abbrev pub said_by : Option ℕ → List ℕ → Option ℕ
said_by known line =
    if nat_lt 255 (length line) then known else elim (length_of (without_cr line)) [ Some n ↦ Some n | None ↦ known ]

-- lines with their line feeds
abbrev pub lines_text : List (List ℕ) → List ℕ
lines_text [] = []
lines_text (l ∷ ls) = (l ++ 10 ∷ []) ++ lines_text ls

-- a line of a header that isn't its last one
abbrev pub IsLine : List ℕ → Type 0
IsLine line = HasNoFeed line × (0 < length (without_cr line))

-- some lines of a header, and what is known after them
pub record AreLines (bytes : List ℕ) (known : Option ℕ) (first : Bool) : Type 0 where
  pub lines : List (List ℕ)
  pub each : AllByRecursion IsLine lines
  pub text : bytes ≡ lines_text lines
  pub says : known ≡ fold said_by None lines
  pub none : first ≡ true → lines ≡ []

-- a whole header, and what it says of the length: lines up to an empty one
pub record IsHeader (bytes : List ℕ) (says : Option ℕ) : Type 0 where
  pub front : List ℕ
  pub last : List ℕ
  pub lines : AreLines front says false
  pub empty : HasNoFeed last × (length (without_cr last) ≡ 0)
  pub text : bytes ≡ front ++ (last ++ 10 ∷ [])

-- a header that was cut off: some lines and a part of a line, not both empty
pub record IsCutHeader (bytes : List ℕ) : Type 0 where
  pub front : List ℕ
  pub last : List ℕ
  pub says : Option ℕ
  pub lines : AreLines front says false
  pub part : HasNoFeed last
  pub text : bytes ≡ front ++ last
  pub some : 0 < length bytes
