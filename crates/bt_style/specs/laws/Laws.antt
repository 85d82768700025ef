-- Laws of styles: where a first fault stands, how many commands are read at most, and the names of built-in functions.
use Rattle.std.specs.Prelude.{◌≡◌, ℕ, suc, ◌+◌, ◌<◌, nat_lt, Bool, true, List, [], ◌∷◌, ◌++◌, length, take, map, codes, Some, None, Ok, Err, ◌≤◌}
use Rattle.std.specs.List.{list_all, count_by}
use Rattle.std.specs.Option.{option_map}
use Rattle.bt_style.specs.declared.fault.StyleFault.{StyleFault}
use Rattle.bt_style.specs.declared.builtin.Builtin.{Builtin}
use Rattle.bt_style.specs.declared.verbs.Stage.{Stage}
use Rattle.bt_style.specs.Builtins.{table, place_of, name_of}
use Rattle.bt_text.specs.ByteTests.{is_line_feed}
use Rattle.bt_style.specs.Token.{Token, Tokens, AtEnd, Front, piece_at, tokens_after, tokens_of, count}
use Rattle.bt_style.specs.Program.{Program}
use Rattle.bt_style.specs.Names.{builtin_named, place_in, target_named}
use Rattle.bt_style.specs.Reader.{commands_at, reading, style_of}
use Rattle.bt_style.specs.Tree.{Body}
use Rattle.bt_style.specs.Bodies.{body_at}
use Rattle.bt_style.specs.laws.Spelled.{SpellsBody, depth_of}

-- tokens with their lines, before others
abbrev pub in_front : List (Token × ℕ) → Tokens → Tokens
in_front [] rest = rest
in_front (first ∷ front) rest = Front first.0 first.1 (in_front front rest)

-- the line of the first token, or of the end
abbrev pub first_line : Tokens → ℕ
first_line (AtEnd line) = line
first_line (Front token line rest) = line

-- a number that a byte can be
abbrev pub is_byte : ℕ → Bool
is_byte b = nat_lt b 256

-- Other tokens begin with the same one on the same line, whatever follows it; or both are at their end.
abbrev pub BeginsAs : Tokens → Tokens → Type 0
BeginsAs (AtEnd line) other = other ≡ AtEnd line
BeginsAs (Front token line rest) other = (behind : Tokens) × (other ≡ Front token line behind)

-- A fault is at one token of a text, or at its end: no style begins with the tokens up to this one, but some style
-- begins with those before it.
pub record StandsAtItsToken (tokens : Tokens) (f : StyleFault) : Type 0 where
  -- the tokens before it, and those from it on
  pub front : List (Token × ℕ)
  pub here : Tokens
  pub whole : tokens ≡ in_front front here
  pub line : f.line ≡ first_line here
  -- whatever follows this token, the fault is the same
  pub final : (other : Tokens) → BeginsAs here other → reading (in_front front other) ≡ Err f
  -- the tokens of some bytes in place of it and of all after it make a style
  pub bytes : List ℕ
  pub are_bytes : list_all is_byte bytes ≡ true
  pub style : Program
  pub first : reading (in_front front (tokens_after 0 f.line bytes)) ≡ Ok style

-- So a fault is neither too early nor too late.
abbrev pub FaultIsFirst : Type 0
FaultIsFirst = (text : List ℕ) (f : StyleFault) → style_of text ≡ Err f → StandsAtItsToken (tokens_of text) f

-- These bytes are exactly one token, which the bytes after it don't extend; or the text ends here.
abbrev pub StandsInFront : List ℕ → List ℕ → Type 0
StandsInFront [] behind = behind ≡ []
StandsInFront (b ∷ more) behind =
    (token : Token) × (piece_at b (more ++ behind) ≡ record { token = Some token; size = suc (length more) })

-- The same for the text's bytes: a fault is at one token, or at the text's end, on its line. No style begins with the
-- bytes up to the token's end, but some style begins with those before the token.
pub record StandsInItsText (text : List ℕ) (f : StyleFault) : Type 0 where
  pub before : List ℕ
  pub token : List ℕ
  pub behind : List ℕ
  pub whole : text ≡ before ++ token ++ behind
  pub one : StandsInFront token behind
  pub line : f.line ≡ 1 + count_by is_line_feed before
  -- Whatever follows the token, the fault is the same, if the byte right after the token is the same, because that byte
  -- shows where the token ends.
  pub final : (other : List ℕ) → take 1 other ≡ take 1 behind → style_of (before ++ token ++ other) ≡ Err f
  -- some bytes in place of the token and of all after it make a style
  pub bytes : List ℕ
  pub are_bytes : list_all is_byte bytes ≡ true
  pub style : Program
  pub first : style_of (before ++ bytes) ≡ Ok style

abbrev pub FaultIsFirstInItsText : Type 0
FaultIsFirstInItsText = (text : List ℕ) (f : StyleFault) → style_of text ≡ Err f → StandsInItsText text f

-- The bound on the number of commands is never reached: any bound above the number of tokens that are left gives the
-- same result. No other definition of styles has such a bound.
abbrev pub AnyBoundServes : Type 0
AnyBoundServes =
    (most : ℕ) (stage : Stage) (p : Program) (tokens : Tokens) → count tokens < most →
    commands_at most stage p tokens ≡ commands_at (suc (count tokens)) stage p tokens

-- In a style that a text spells, nothing is named `"`. So no literal passes as a name, though it counts as this word if
-- a name is asked for (`word_at`).
abbrev pub QuoteNamesNothing : Type 0
QuoteNamesNothing = (text : List ℕ) (p : Program) → style_of text ≡ Ok p → target_named p (codes "\"") ≡ None

-- The name of each built-in function stands for that function, so no two have one name.
abbrev pub FoundByTheirNames : Type 0
FoundByTheirNames = (b : Builtin) → builtin_named (name_of b) ≡ Some b

-- `place_of` gives the place in the table: the function of a name has the place that the name has in the table, and a
-- name that isn't in the table is no function's.
abbrev pub FoundAtTheirPlaces : Type 0
FoundAtTheirPlaces = (name : List ℕ) → option_map place_of (builtin_named name) ≡ place_in (map name_of table) name

-- The body that is read from tokens is one that they spell, by the grammar of bodies.
abbrev pub BodiesAreSpelled : Type 0
BodiesAreSpelled = (p : Program) (tokens : Tokens) (b : Body) (rest : Tokens) → body_at p [] [] tokens ≡ Ok (b, rest) →
    SpellsBody p b tokens rest

-- A body that tokens spell by the grammar of bodies is the one that is read from them, if its braces nest at most 100
-- deep.
abbrev pub SpelledBodiesAreRead : Type 0
SpelledBodiesAreRead = (p : Program) (tokens : Tokens) (b : Body) (rest : Tokens) → SpellsBody p b tokens rest →
    depth_of b ≤ 100 → body_at p [] [] tokens ≡ Ok (b, rest)
