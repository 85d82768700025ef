-- Values on the stack in words.
use Rattle.std.specs.Prelude.{ℕ, ℤ, nat_le, ◌==◌, ◌&&◌, not, Bool, true, false, if◌then◌else◌, List, [], ◌∷◌, ◌++◌, length, codes, slice_get, unwrap_or}
use Rattle.std.specs.List.{list_all}
use Rattle.std.specs.Fmt.{signed_decimal}
use Rattle.bt_words.specs.declared.program.Program.{Program}
use Rattle.bt_words.specs.Constants.{constant_at}
use Rattle.bt_check.specs.declared.watching.Lying.{Lying}
use Rattle.bt_check.specs.declared.watching.Lying.TheVariants.{Integer, Text, Field, Of}

-- what a value is called by whether it may be a function, an integer, a missing field or a string
abbrev pub kinds_words : Bool → Bool → Bool → Bool → List ℕ
kinds_words false false false true = codes "a string"
kinds_words false false true false = codes "a missing field"
kinds_words false false true true = codes "a string or a missing field"
kinds_words false true false false = codes "an integer"
kinds_words true false false false = codes "a function"
kinds_words _ _ _ _ = codes "a value"

-- any byte but a backquote
abbrev pub is_plain_byte : ℕ → Bool
is_plain_byte b = not (b == 96)

-- whether a text can stand between backquotes in Markdown, and isn't long
abbrev pub is_shown : List ℕ → Bool
is_shown text = nat_le (length text) 40 && list_all is_plain_byte text

-- a constant of the style
abbrev pub text_words : List ℕ → List ℕ
text_words text = if is_shown text then codes "`\"" ++ text ++ codes "\"`" else codes "a string"

-- the name of a field; empty if there is none of this number
abbrev pub field_name : List (List ℕ) → ℕ → List ℕ
field_name names number = unwrap_or (slice_get names number) []

abbrev pub field_words : List ℕ → List ℕ
field_words name = if is_shown name then codes "the field `" ++ name ++ codes "`" else codes "a field"

abbrev pub integer_words : ℤ → List ℕ
integer_words number = codes "`#" ++ signed_decimal number ++ codes "`"

-- a value of a style with these fields and these constants
abbrev pub lying_words : List (List ℕ) → Program → Lying → List ℕ
lying_words fields p (Integer number) = integer_words number
lying_words fields p (Text number) = text_words (constant_at p number)
lying_words fields p (Field number) = field_words (field_name fields number)
lying_words fields p (Of kinds) = kinds_words kinds.function kinds.integer kinds.missing kinds.string

-- values behind others
abbrev pub more_values : List (List ℕ) → Program → List Lying → List ℕ
more_values fields p [] = []
more_values fields p (value ∷ values) = (codes ", " ++ lying_words fields p value) ++ more_values fields p values

-- values of the stack, from the lowest on
abbrev pub stack_words : List (List ℕ) → Program → List Lying → List ℕ
stack_words fields p [] = codes "nothing"
stack_words fields p (value ∷ values) = lying_words fields p value ++ more_values fields p values

-- what is said of a name, and of the stack there
abbrev pub with_notes : List ℕ → List ℕ → List ℕ
with_notes [] notes = notes
with_notes (b ∷ said) [] = b ∷ said
with_notes (b ∷ said) (n ∷ notes) = (b ∷ said) ++ codes "\n\n" ++ (n ∷ notes)
