-- The bodies of functions.
use Rattle.std.specs.Prelude.{ℕ, nat_lt, if◌then◌else◌, List, [], ◌∷◌, ◌++◌, length, Result, Ok}
use Rattle.bt_style.specs.declared.fault.FaultKind.TheVariants.{UnclosedText, UnclosedBrace, StrayByte}
use Rattle.bt_style.specs.declared.fault.StyleFault.{StyleFault}
use Rattle.bt_style.specs.Tree.{Element, Words, Braced, Body, body_of}
use Rattle.bt_style.specs.Program.{Program}
use Rattle.bt_style.specs.Fault.{fault, ◌>>=◌}
use Rattle.bt_style.specs.Token.{Open, Close, Word, Literal, Unclosed, Glued, Tokens, AtEnd, Front}
use Rattle.bt_style.specs.Elements.{word_element}

-- At most this number of braces may be around a body, so braces nest at most 100 deep, the body's own included.
abbrev pub outer_limit : ℕ
outer_limit = 99

-- Reads up to the brace that closes the body. `outer` has the elements before each brace that is open inside the body,
-- the innermost first; `now` has those after the innermost.
unfoldable pub body_at : Program → List (List Element) → List Element → Tokens → Result (Body × Tokens) StyleFault
body_at p outer now (AtEnd line) = fault UnclosedBrace line
body_at p outer now (Front Open line rest) =
    if nat_lt (length outer) outer_limit then body_at p (now ∷ outer) [] rest else fault UnclosedBrace line
body_at p [] now (Front Close line rest) = Ok (body_of now, rest)
body_at p (before ∷ outer) now (Front Close line rest) = body_at p outer (before ++ Braced (body_of now) ∷ []) rest
body_at p outer now (Front (Word word) line rest) =
    word_element p word line >>= λ e. body_at p outer (now ++ e ∷ []) rest
body_at p outer now (Front (Literal bytes) line rest) = body_at p outer (now ++ Words bytes ∷ []) rest
body_at p outer now (Front Unclosed line rest) = fault UnclosedText line
body_at p outer now (Front Glued line rest) = fault StrayByte line
