-- The words of a style's text, each with its place.
use Rattle.std.specs.Prelude.{ℕ, zero, suc, ◌+◌, ◌-◌, ◌==◌, if◌then◌else◌, List, [], ◌∷◌, ◌++◌, Option, Some, None}
use Rattle.bt_style.specs.Token.{Token, percent_sign, piece_at}
use Rattle.bt_style.specs.Token as tokens
use Rattle.bt_style_text.specs.declared.words.Word.{Word}
use Rattle.bt_style_text.specs.declared.words.WordKind.{WordKind}
use Rattle.bt_style_text.specs.declared.words.WordKind.TheVariants as kinds

-- the kind of a token
abbrev pub kind_of_token : Token → WordKind
kind_of_token tokens.Open = kinds.Open
kind_of_token tokens.Close = kinds.Close
kind_of_token (tokens.Word bytes) = kinds.Plain
kind_of_token (tokens.Literal bytes) = kinds.Literal
kind_of_token tokens.Unclosed = kinds.Broken
kind_of_token tokens.Glued = kinds.Broken

-- the kind of a piece that begins with this byte: a comment is a word here, and white space is none
abbrev pub kind_of : ℕ → Option Token → Option WordKind
kind_of b None = if b == percent_sign then Some kinds.Comment else None
kind_of b (Some token) = Some (kind_of_token token)

-- a word between two places, if there is one
abbrev pub placed : Option WordKind → ℕ → ℕ → List Word
placed None start end = []
placed (Some kind) start end = record { kind = kind; start = start; end = end } ∷ []

-- The words of the rest of a text, which begins at a place. The first so many bytes belong to a piece that began before.
unfoldable pub words_after : ℕ → ℕ → List ℕ → List Word
words_after covered place [] = []
words_after (suc covered) place (b ∷ bytes) = words_after covered (place + 1) bytes
words_after zero place (b ∷ bytes) =
    let piece = piece_at b bytes in
    placed (kind_of b piece.token) place (place + piece.size) ++ words_after (piece.size - 1) (place + 1) bytes

-- the words of a text
abbrev pub words_of : List ℕ → List Word
words_of text = words_after 0 0 text
