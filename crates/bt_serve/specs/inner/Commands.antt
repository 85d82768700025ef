-- The first word of a line, and the requests that are no edits.
use Rattle.std.specs.Prelude.{◌≡◌, ℕ, List, [], ◌∷◌, Option, Some, None}
use Rattle.bt_serve.specs.Commands.{Request, edit, words_in_line}

-- What a line asks for

-- a text's first word, and the text after the space that follows it
abbrev pub FirstWord : List ℕ → List ℕ → Option (List ℕ) → Type 0
FirstWord text word None = words_in_line text ≡ word ∷ []
FirstWord text word (Some rest) = words_in_line text ≡ word ∷ words_in_line rest

-- What is answered

-- any other than an edit
abbrev pub IsShown : Request → Type 0
IsShown (edit e n) = ⊥
IsShown _ = Unit {0}
