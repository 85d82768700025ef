-- What is left of a pattern, and what it gives.
use Rattle.std.specs.Prelude.{◌≡◌, ◌<◌, ◌++◌, ℕ, List, None, flat_map, length}
use Rattle.bt_names.specs.declared.tokens.Parts.{Parts}
use Rattle.bt_names.specs.declared.kept_pieces.KeptPiece.{KeptPiece}
use Rattle.bt_names.specs.declared.kept_pieces.Rest.{Rest}
use Rattle.bt_names.specs.declared.kept_pieces.Rest.TheVariants.{Bytes, Pieces}
use Rattle.bt_names.specs.declared.pieces.Piece.{Piece}
use Rattle.bt_names.specs.Groups.{formatted}
use Rattle.bt_names.specs.Patterns.{pattern_fault}
use Rattle.bt_names.specs.inner.Pieces.{kept_output, piece_output}

abbrev pub rest_output : Parts → Rest → List ℕ
rest_output parts (Bytes pattern) = formatted parts pattern.now
rest_output parts (Pieces pieces) = flat_map (kept_output parts) pieces.now

abbrev pub rest_size : Rest → ℕ
rest_size (Bytes pattern) = length pattern.now
rest_size (Pieces pieces) = length pieces.now

abbrev pub IsSound : Rest → Type 0
IsSound (Bytes pattern) = pattern_fault pattern.now ≡ None
IsSound (Pieces pieces) = Unit {0}

-- the first piece of a rest, and what is behind it
abbrev pub IsNext : Rest → Piece → Rest → Type 0
IsNext rest piece behind =
    (IsSound behind) × (rest_size behind < rest_size rest)
    × ((parts : Parts) → rest_output parts rest ≡ piece_output parts piece ++ rest_output parts behind)

-- The pieces give in each name what the pattern does, which has no fault.
abbrev pub IsCut : List ℕ → List KeptPiece → Type 0
IsCut pattern pieces = (pattern_fault pattern ≡ None) × ((parts : Parts) → flat_map (kept_output parts) pieces ≡ formatted parts pattern)

-- all of a pattern, which has no fault
abbrev pub IsRestOf : List ℕ → Rest → Type 0
IsRestOf pattern rest = (pattern_fault pattern ≡ None) × (IsSound rest) × ((parts : Parts) → rest_output parts rest ≡ formatted parts pattern)
