-- How a line is held until it ends.
use Rattle.std.specs.Prelude.{ℕ, List, [], ◌∷◌, ◌++◌}
use Rattle.bt_text.specs.declared.output.Output.{Output}
use Rattle.bt_text.specs.LineBreaks.{broken, line_unless_empty}

-- A text is written after what is held, and both together are broken.
abbrev pub written : List ℕ → List ℕ → Output
written held t = broken (held ++ t)

-- if nothing is held, an empty line; else what is held without the white space at its end, unless it is white alone
abbrev pub ended_lines : List ℕ → List (List ℕ)
ended_lines [] = [] ∷ []
ended_lines (b ∷ t) = line_unless_empty (b ∷ t)

-- the held line ends
abbrev pub line_ended : List ℕ → Output
line_ended held = record { lines = ended_lines held; held = [] }
