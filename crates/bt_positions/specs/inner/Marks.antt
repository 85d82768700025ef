-- How far some offsets of a text are in their lines.
use Rattle.std.specs.Prelude.{ℕ, zero, suc, ◌≡◌, ◌≤◌, ◌+◌, ◌-◌, ◌*◌, min, drop, length, List, [], ◌∷◌, ◌++◌}
use Rattle.bt_positions.specs.declared.counting.Counting.{Counting}
use Rattle.bt_positions.specs.declared.lines.Lines.TheVariants.{Editor}
use Rattle.bt_positions.specs.declared.marks.Line.{Line}
use Rattle.bt_positions.specs.declared.marks.Spot.{Spot}
use Rattle.bt_positions.specs.Units.{fitting}
use Rattle.bt_positions.specs.Lines.{place_of_line, line_ends, first_line}
use Rattle.bt_positions.specs.Positions.{position_of}

-- where the line of an offset begins
abbrev pub line_start : ℕ → List ℕ → ℕ
line_start n text = min (place_of_line Editor (line_ends n text) text) n

-- the units before an offset in its line
abbrev pub character_at : Counting → ℕ → List ℕ → ℕ
character_at c n text = (position_of c n text).character

-- the first n marks: the units before the offsets 2048, 4096, .. in their lines
abbrev pub marks_of : Counting → ℕ → List ℕ → List ℕ
marks_of c zero text = []
marks_of c (suc n) text = marks_of c n text ++ (character_at c (2048 * suc n) text ∷ [])

-- the line of a number, counted from 0
abbrev pub line_at : ℕ → List ℕ → Line
line_at n text = record { number = n; start = place_of_line Editor n text; next = place_of_line Editor (n + 1) text }

-- The character of a line that begins at `start` is found from a spot of the line as it is from its beginning.
pub record LeadsTo (c : Counting) (character start : ℕ) (text : List ℕ) (spot : Spot) : Type 0 where
  pub before : spot.units ≤ character
  pub within : spot.place ≤ length text
  pub same : spot.place + fitting c (character - spot.units) (first_line (drop spot.place text))
      ≡ start + fitting c character (first_line (drop start text))
