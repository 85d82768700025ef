-- The tokens of a style's text, each with its line.
use Rattle.std.specs.Prelude.{ℕ, zero, suc, ◌+◌, ◌-◌, Bool, true, ◌||◌, ◌==◌, if◌then◌else◌, List, [], ◌∷◌, length, drop, Option, Some, None}
use Rattle.std.specs.List.{before_first}
use Rattle.bt_text.specs.ByteTests.{left_brace, right_brace, is_white, is_line_feed}

abbrev pub quote : ℕ
quote = 34

abbrev pub percent_sign : ℕ
percent_sign = 37

-- whether a byte ends a word: white space, a percent sign or a brace
abbrev pub ends_word : ℕ → Bool
ends_word b = is_white b || b == percent_sign || b == left_brace || b == right_brace

-- whether a byte ends a literal: a quote, or the line's end
abbrev pub ends_literal : ℕ → Bool
ends_literal b = b == quote || is_line_feed b

pub data Token : Type 0 where
  Open : Token
  Close : Token
  Word : (bytes : List ℕ) → Token
  -- the bytes between two quotes of one line
  Literal : (bytes : List ℕ) → Token
  -- a quote with no other on its line
  Unclosed : Token
  -- two quotes of one line, and right after them a byte that doesn't end a word
  Glued : Token

-- tokens with their lines, up to the text's end with its line
pub data Tokens : Type 0 where
  AtEnd : (line : ℕ) → Tokens
  Front : (token : Token) → (line : ℕ) → (rest : Tokens) → Tokens

-- a piece of a text: its number of bytes, and its token; white space and comments are none
pub record Piece : Type 0 where
  pub token : Option Token
  pub size : ℕ

-- whether these bytes may follow a literal
abbrev pub may_follow : List ℕ → Bool
may_follow [] = true
may_follow (b ∷ _) = ends_word b

-- the piece that begins with a quote, which ends at the next quote or before the line's end
unfoldable pub literal_piece : List ℕ → Piece
literal_piece bytes =
    let inside = before_first ends_literal bytes in
    let unclosed : Piece = record { token = Some Unclosed; size = 1 + length inside } in
    elim (drop (length inside) bytes) [
      | [] ↦ unclosed
      | b ∷ behind ↦
          if b == quote then record {
            token = Some (if may_follow behind then Literal inside else Glued);
            size = 2 + length inside;
          }
          else unclosed
    ]

-- the piece that begins with this byte, which these bytes follow
unfoldable pub piece_at : ℕ → List ℕ → Piece
piece_at b bytes =
    let comment = before_first is_line_feed bytes in
    let more = before_first ends_word bytes in
    if is_white b then record { token = None; size = 1 }
    else if b == percent_sign then record { token = None; size = 1 + length comment }
    else if b == left_brace then record { token = Some Open; size = 1 }
    else if b == right_brace then record { token = Some Close; size = 1 }
    else if b == quote then literal_piece bytes
    else record { token = Some (Word (b ∷ more)); size = 1 + length more }

abbrev pub line_after : ℕ → ℕ → ℕ
line_after b line = if is_line_feed b then line + 1 else line

-- The tokens of the rest of a text, which begins on this line. Its first `covered` bytes belong to a piece that began
-- before. They are skipped one by one, so that each step of the recursion takes one byte.
unfoldable pub tokens_after : ℕ → ℕ → List ℕ → Tokens
tokens_after covered line [] = AtEnd line
tokens_after (suc covered) line (b ∷ bytes) = tokens_after covered (line_after b line) bytes
tokens_after zero line (b ∷ bytes) =
    let piece = piece_at b bytes in
    let rest = tokens_after (piece.size - 1) (line_after b line) bytes in
    elim piece.token [ None ↦ rest | Some token ↦ Front token line rest ]

-- the tokens of a text
abbrev pub tokens_of : List ℕ → Tokens
tokens_of text = tokens_after 0 1 text

-- how many tokens there are
abbrev pub count : Tokens → ℕ
count (AtEnd line) = 0
count (Front token line rest) = suc (count rest)
