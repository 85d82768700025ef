-- The front piece of a text, as the code has it.
use Rattle.std.specs.Prelude.{◌≡◌, ℕ, ◌<◌, ◌≤◌, List, Option, Some, slice_index, drop}
use Rattle.std.specs.Option.{option_map}
use Rattle.bt_style.specs.Token.{Piece, piece_at}
use Rattle.bt_style_text.specs.declared.words.WordKind.{WordKind}
use Rattle.bt_style_text.specs.Words.{kind_of, kind_of_token}

abbrev pub front_byte : List ℕ → ℕ
front_byte text = slice_index text 0

abbrev pub front_piece : List ℕ → Piece
front_piece text = piece_at (front_byte text) (drop 1 text)

-- a piece that is a literal: its kind, and its size, which is in the text
pub record IsLiteral (piece : Piece) (found : WordKind) (length room : ℕ) : Type 0 where
  pub kind : option_map kind_of_token piece.token ≡ Some found
  pub size : piece.size ≡ length
  pub some : 0 < length
  pub within : length ≤ room

-- a piece that begins with this byte: the kind of its word, and its size, which is in the text
pub record IsPiece (b : ℕ) (piece : Piece) (found : Option WordKind) (length room : ℕ) : Type 0 where
  pub kind : kind_of b piece.token ≡ found
  pub size : piece.size ≡ length
  pub some : 0 < length
  pub within : length ≤ room
