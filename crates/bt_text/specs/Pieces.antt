-- The pieces of a text.
use Rattle.std.specs.Prelude.{ℕ, Bool, true, false, if◌then◌else◌, List, [], ◌∷◌, map, flat_map}
use Rattle.bt_text.specs.Blocks.{begins_special, blocks}
use Rattle.bt_text.specs.ByteTests.{is_brace}

-- a special character, a brace that is in none, or another byte that is in none
pub data Piece : Type 0 where
  special : List ℕ → Piece
  brace : ℕ → Piece
  other : ℕ → Piece

-- A group that begins with a left brace and a backslash is a special character.
abbrev pub block_pieces : List ℕ → List Piece
block_pieces block = if begins_special block then special block ∷ [] else map (λ b. if is_brace b then brace b else other b) block

abbrev pub pieces : List ℕ → List Piece
pieces t = flat_map block_pieces (blocks t)

-- the bytes of a piece
abbrev pub bytes_of : Piece → List ℕ
bytes_of (special s) = s
bytes_of (brace b) = b ∷ []
bytes_of (other b) = b ∷ []

-- A text character is a special character, or a byte in none that is no brace.
abbrev pub is_character : Piece → Bool
is_character (special s) = true
is_character (brace b) = false
is_character (other b) = true
