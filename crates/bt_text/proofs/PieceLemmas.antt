-- Bytes outside special characters.
use Rattle.std.proofs.Common.{◌≡◌, ℕ, true, false, eqb, List, [], ◌∷◌, map, flat_map, refl, ◌≢◌, ◌⊎◌, inl, inr}
use Rattle.std.proofs.lemmas.Bool.Decides.{eqb_tells}
use Rattle.bt_text.specs.Blocks.{begins_special}
use Rattle.bt_text.specs.Pieces.{block_pieces}
use Rattle.bt_text.specs.inner.Cases.{single}
use Rattle.bt_text.specs.Purification.{purified_byte, purified_piece}

-- outside special characters each byte is a piece
pub pieces_of_plain : (block : List ℕ) → begins_special block ≡ false → block_pieces block ≡ map single block
pieces_of_plain block e = rw e refl

purified_single : (b : ℕ) → purified_piece (single b) ≡ purified_byte b
purified_single b = by_braces (eqb_tells b 123) (eqb_tells b 125)
  where
    by_braces : ((eqb b 123 ≡ true) × (b ≡ 123)) ⊎ ((eqb b 123 ≡ false) × (b ≢ 123)) → ((eqb b 125 ≡ true) × (b ≡ 125)) ⊎ ((eqb b 125 ≡ false) × (b ≢ 125)) → purified_piece (single b) ≡ purified_byte b
    by_braces (inl left) _ = rw left.1 refl
    by_braces (inr other) (inl right) = rw right.1 refl
    by_braces (inr other) (inr neither) = rw (other.0, neither.0) refl

pub purified_plain : (t : List ℕ) → flat_map purified_piece (map single t) ≡ flat_map purified_byte t
purified_plain [] = refl
purified_plain (b ∷ t) = rw (purified_single b, purified_plain t) refl

pub purified_plain_block : (block : List ℕ) → begins_special block ≡ false → flat_map purified_piece (block_pieces block) ≡ flat_map purified_byte block
purified_plain_block block e = rw (pieces_of_plain block e, purified_plain block) refl
