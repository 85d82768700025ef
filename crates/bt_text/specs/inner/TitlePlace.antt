-- What stands before a place of a title, byte by byte.
use Rattle.std.specs.Prelude.{ℕ, Bool, true, false, ◌&&◌, ◌||◌, ◌==◌, if◌then◌else◌, List, [], ◌∷◌}
use Rattle.bt_text.specs.declared.modes.Mode.{Mode}
use Rattle.bt_text.specs.declared.modes.Mode.TheVariants.{Title, Lower, Upper}
use Rattle.bt_text.specs.ByteTests.{is_white}
use Rattle.bt_text.specs.White.{ends_in, trimmed_end}

-- a place of a title
pub record TitlePlace : Type 0 where
  pub is_first : Bool
  pub follows_white : Bool
  -- whether the last byte before it that isn't white is a colon
  pub follows_colon : Bool

abbrev pub is_empty : List ℕ → Bool
is_empty [] = true
is_empty (b ∷ t) = false

-- the place after some bytes
abbrev pub title_place_after : List ℕ → TitlePlace
title_place_after front =
    record {
      is_first = is_empty front;
      follows_white = ends_in is_white front;
      follows_colon = ends_in (λ b. b == 58) (trimmed_end front);
    }

-- one byte on
abbrev pub next_place : TitlePlace → ℕ → TitlePlace
next_place place b =
    record {
      is_first = false;
      follows_white = is_white b;
      follows_colon = if is_white b then place.follows_colon else b == 58;
    }

-- whether the mode spares what stands there
abbrev pub is_spared_at : Mode → TitlePlace → Bool
is_spared_at Title place = place.is_first || (place.follows_white && place.follows_colon)
is_spared_at Lower place = false
is_spared_at Upper place = false
