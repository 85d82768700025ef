-- Places in a text, with the bytes from there on.
use Rattle.std.specs.Prelude.{ℕ, ◌+◌, List, [], ◌∷◌, length, drop, count_by, if◌then◌else◌}
use Rattle.bt_text.specs.ByteTests.{is_line_feed}
use Rattle.bt_bib.specs.declared.spot.Spot.{Spot}

abbrev pub start : Spot
start = record { place = 0; line = 1 }

-- the place of an item's `@`, to which the item's own places and lines are relative
abbrev pub item_start : Spot
item_start = record { place = 0; line = 0 }

-- the spot after a byte
abbrev pub spot_after_byte : ℕ → Spot → Spot
spot_after_byte b s = record { place = s.place + 1; line = if is_line_feed b then s.line + 1 else s.line }

-- the spot after some bytes
abbrev pub spot_after : List ℕ → Spot → Spot
spot_after front s = record { place = s.place + length front; line = s.line + count_by is_line_feed front }

-- a spot relative to another one, as a spot of the text
abbrev pub spot_from : Spot → Spot → Spot
spot_from first s = record { place = s.place + first.place; line = s.line + first.line }

-- a spot of a text, and the bytes from there on
pub record Here : Type 0 where
  pub spot : Spot
  pub rest : List ℕ

abbrev pub at : Spot → List ℕ → Here
at s rest = record { spot = s; rest = rest }

-- a place relative to another one, with the bytes from there on, as a place of the text
abbrev pub here_from : Spot → Here → Here
here_from first h = at (spot_from first h.spot) h.rest

abbrev pub here : List ℕ → Spot → Here
here text s = at s (drop s.place text)

-- after some bytes that are here
abbrev pub after_bytes : List ℕ → Here → Here
after_bytes front h = at (spot_after front h.spot) (drop (length front) h.rest)

abbrev pub after_first_byte : Spot → List ℕ → Here
after_first_byte s [] = at s []
after_first_byte s (b ∷ rest) = at (spot_after_byte b s) rest

-- after one byte
abbrev pub after_byte : Here → Here
after_byte h = after_first_byte h.spot h.rest
