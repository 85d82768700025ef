-- What the laws of the crate say. `proofs/laws/Laws.antt` proves them.
use Rattle.std.specs.Prelude.{◌≡◌, ◌+◌, ℕ, List, ◌++◌, true}
use Rattle.bt_positions.specs.declared.counting.Counting.{Counting}
use Rattle.bt_positions.specs.Units.{width}
use Rattle.bt_positions.specs.Positions.{offset_of, position_of}
use Rattle.bt_positions.specs.laws.Places.{is_place}

-- The units of two joined texts are those of the first and those of the second.
pub record WidthsAddUp : Type 0 where
  pub joined : (c : Counting) (s t : List ℕ) → width c (s ++ t) ≡ width c s + width c t

-- An offset that cuts nothing has a position, which has that offset.
pub record OffsetsComeBack : Type 0 where
  pub back : (c : Counting) (n : ℕ) (text : List ℕ) → is_place c n text ≡ true →
      offset_of c (position_of c n text) text ≡ n
