-- What a cursor of the code has left to give; no part of the meaning.
use Rattle.std.specs.Prelude.{◌≡◌, ℕ, ◌<◌, ◌≤◌, List, Option, Some, None, slice_index, drop}
use Rattle.bt_style.specs.Token.{Tokens, AtEnd, Front, Piece, piece_at}
use Rattle.bt_style.specs.inner.Cases.{with_token}
use Rattle.bt_style.specs.Token as tokens
use Rattle.bt_style.specs.declared.token.Token.{Token}
use Rattle.bt_style.specs.declared.token.TokenKind.{TokenKind}
use Rattle.bt_style.specs.declared.token.TokenKind.TheVariants as kinds

-- a token of the code before others
abbrev pub kind_placed : TokenKind → ℕ → Tokens → Tokens
kind_placed kinds.End line rest = AtEnd line
kind_placed kinds.Open line rest = Front tokens.Open line rest
kind_placed kinds.Close line rest = Front tokens.Close line rest
kind_placed (kinds.Word bytes) line rest = Front (tokens.Word bytes.now) line rest
kind_placed (kinds.Literal bytes) line rest = Front (tokens.Literal bytes.now) line rest
kind_placed kinds.Unclosed line rest = Front tokens.Unclosed line rest
kind_placed kinds.Glued line rest = Front tokens.Glued line rest

abbrev pub placed : Token → Tokens → Tokens
placed token rest = kind_placed token.kind token.line rest

abbrev pub maybe_placed : Option TokenKind → ℕ → Tokens → Tokens
maybe_placed None line rest = rest
maybe_placed (Some kind) line rest = kind_placed kind line rest

-- the first piece of a text
abbrev pub front_piece : List ℕ → Piece
front_piece text = piece_at (slice_index text 0) (drop 1 text)

-- A piece, as the code has it: its token, if it is one, and its size, which is in the text.
pub record IsPiece (piece : Piece) (found : Option TokenKind) (length room : ℕ) : Type 0 where
  pub token : (line : ℕ) (others : Tokens) → with_token piece.token line others ≡ maybe_placed found line others
  pub size : piece.size ≡ length
  pub some : 0 < length
  pub within : length ≤ room
