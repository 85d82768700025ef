-- Bytes of a title outside of groups.
use Rattle.std.specs.Prelude.{◌≢◌, ℕ, ◌<◌, false, length, slice_index, if◌then◌else◌, List, [], ◌∷◌}
use Rattle.std.specs.Char.{to_ascii_lowercase}
use Rattle.bt_text.specs.declared.modes.Mode.TheVariants.{Title}
use Rattle.bt_text.specs.ByteTests.{is_white}
use Rattle.bt_text.specs.inner.TitlePlace.{TitlePlace, is_spared_at, next_place}
use Rattle.bt_text.specs.declared.titles.Place.{Place}

abbrev pub colon : ℕ
colon = 58

abbrev pub place_of : Place → TitlePlace
place_of p = record { is_first = p.is_first; follows_white = p.follows_white; follows_colon = p.follows_colon }

-- a run that begins at a place
abbrev pub title_run : TitlePlace → List ℕ → List ℕ
title_run place [] = []
title_run place (b ∷ t) =
    (if is_spared_at Title place then b else to_ascii_lowercase b) ∷ title_run (next_place place b) t

-- no colon stands in the text
abbrev pub IsQuiet : List ℕ → Type 0
IsQuiet t = (i : ℕ) → i < length t → slice_index t i ≢ colon

-- the place after some bytes without a colon, which end in the byte b
abbrev pub quiet_place : ℕ → TitlePlace
quiet_place b = record { is_first = false; follows_white = is_white b; follows_colon = false }
