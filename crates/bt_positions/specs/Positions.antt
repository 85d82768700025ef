-- Positions, and the offsets of their bytes.
use Rattle.std.specs.Prelude.{ℕ, ◌+◌, ◌-◌, min, take, drop, List, ◌++◌}
use Rattle.bt_positions.specs.declared.counting.Counting.{Counting}
use Rattle.bt_positions.specs.declared.indexed_text.Position.{Position}
use Rattle.bt_positions.specs.declared.splicing.Splice.{Splice}
use Rattle.bt_positions.specs.Units.{width, fitting}
use Rattle.bt_positions.specs.declared.lines.Lines.TheVariants.{Editor}
use Rattle.bt_positions.specs.Lines.{place_of_line, line_ends, first_line}

-- how many bytes precede a position
abbrev pub offset_of : Counting → Position → List ℕ → ℕ
offset_of c p text =
    let start = place_of_line Editor p.line text in
    start + fitting c p.character (first_line (drop start text))

-- the position after this many bytes
abbrev pub position_of : Counting → ℕ → List ℕ → Position
position_of c n text =
    let start = min (place_of_line Editor (line_ends n text) text) n in
    record { line = line_ends n text; character = width c (take (n - start) (drop start text)) }

-- the text with a part replaced
abbrev pub spliced : Splice → List ℕ → List ℕ
spliced s text = take s.start text ++ s.new.now ++ drop s.end text
