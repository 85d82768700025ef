-- The arguments of commands. A literal is allowed only as a macro's text; elsewhere it counts as a word that isn't a
-- name.
use Rattle.std.specs.Prelude.{ℕ, List, Result, Ok, codes}
use Rattle.bt_style.specs.declared.fault.FaultKind.TheVariants.{UnclosedText, UnclosedBrace, StrayByte, MissingArgument}
use Rattle.bt_style.specs.declared.fault.StyleFault.{StyleFault}
use Rattle.bt_style.specs.Fault.{fault, ◌>>=◌}
use Rattle.bt_style.specs.Token.{Open, Close, Word, Literal, Unclosed, Glued, Tokens, AtEnd, Front}

-- the brace that opens an argument
abbrev pub open_at : Tokens → Result Tokens StyleFault
open_at (AtEnd line) = fault MissingArgument line
open_at (Front Open line rest) = Ok rest
open_at (Front _ line rest) = fault MissingArgument line

-- the brace that closes it
abbrev pub close_at : Tokens → Result Tokens StyleFault
close_at (AtEnd line) = fault UnclosedBrace line
close_at (Front Close line rest) = Ok rest
close_at (Front _ line rest) = fault UnclosedBrace line

-- A word with its line. A literal counts as the word `"`. That isn't a name, and nothing has it as its name, so
-- wherever it is used, there is a fault at that token, on its line.
abbrev pub word_at : Tokens → Result ((List ℕ × ℕ) × Tokens) StyleFault
word_at (AtEnd line) = fault MissingArgument line
word_at (Front Open line rest) = fault MissingArgument line
word_at (Front Close line rest) = fault MissingArgument line
word_at (Front (Word word) line rest) = Ok ((word, line), rest)
word_at (Front _ line rest) = Ok ((codes "\"", line), rest)

-- one word in braces, which the test turns into a value or refuses
abbrev pub braced_word : {A : Type 0} → (List ℕ → ℕ → Result A StyleFault) → Tokens → Result (A × Tokens) StyleFault
braced_word test tokens = do
  inside ← open_at tokens
  word ← word_at inside
  value ← test word.0.0 word.0.1
  rest ← close_at word.1
  Ok (value, rest)

-- the text of a macro
abbrev pub literal_at : Tokens → Result (List ℕ × Tokens) StyleFault
literal_at (Front (Literal bytes) line rest) = Ok (bytes, rest)
literal_at (Front Unclosed line rest) = fault UnclosedText line
literal_at (Front Glued line rest) = fault StrayByte line
literal_at (Front _ line rest) = fault MissingArgument line
literal_at (AtEnd line) = fault MissingArgument line
