-- The place of the letter of a group.
use Rattle.std.specs.Prelude.{◌≡◌, ℕ, ◌<◌, true, List, length, slice_index}
use Rattle.bt_text.specs.ByteTests.{is_letter}
use Rattle.bt_text.specs.Depth.{depth_at}

-- such a place
pub record IsLetterPlace (t : List ℕ) (i : ℕ) : Type 0 where
  pub within : i < length t
  pub letter : is_letter (slice_index t i) ≡ true
  pub flat : depth_at t i ≡ 0
