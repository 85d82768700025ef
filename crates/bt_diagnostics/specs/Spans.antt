-- The part of a text that a message of a line is about.
use Rattle.std.specs.Prelude.{ℕ, suc, ◌+◌, ◌-◌, ◌==◌, nat_le, ◌&&◌, ◌||◌, if◌then◌else◌, drop, length, List, [], ◌∷◌, Option, Some, None}
use Rattle.bt_positions.specs.declared.lines.Lines.TheVariants.{Bibtex}
use Rattle.bt_positions.specs.Lines.{place_of_line, first_line}
use Rattle.bt_diagnostics.specs.declared.spans.Span.{Span}

-- how many spaces and tabs a line begins with
abbrev pub blank_len : List ℕ → ℕ
blank_len [] = 0
blank_len (b ∷ t) = if b == 32 || b == 9 then suc (blank_len t) else 0

-- from the byte on, if it is known and lies in the line, otherwise from the line's first byte that isn't blank
abbrev pub begin_of : Option ℕ → ℕ → List ℕ → ℕ
begin_of (Some byte) start line =
    if nat_le start byte && nat_le byte (start + length line) then byte else start + blank_len line
begin_of None start line = start + blank_len line

-- what a message of a line, counted from 1, is about
abbrev pub span_of : ℕ → Option ℕ → List ℕ → Span
span_of number byte text =
    let start = place_of_line Bibtex (number - 1) text in
    let line = first_line (drop start text) in
    record { begin = begin_of byte start line; end = start + length line }
