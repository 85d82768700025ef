-- Texts and lines without their marks.
use Rattle.std.specs.Prelude.{ℕ, List, [], ◌∷◌, ◌++◌, map, Vec}
use Rattle.std.specs.declared.alloc.Global.{Global}
use Rattle.bt_marks.specs.declared.texts.Marked.{Marked}
use Rattle.bt_marks.specs.declared.lines.Written.{Written}

-- the bytes of a text
abbrev pub text_bytes : List Marked → List ℕ
text_bytes text = map (λ m. m.byte) text

-- the bytes of a line
abbrev pub line_bytes : List Written → List ℕ
line_bytes line = map (λ w. w.marked.byte) line

-- lines, each with a line feed after it
abbrev pub lines_bytes : List (Vec Written Global) → List ℕ
lines_bytes [] = []
lines_bytes (line ∷ lines) = line_bytes line.items ++ 10 ∷ lines_bytes lines
