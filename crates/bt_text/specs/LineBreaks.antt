-- How a long text is broken into lines.
use Rattle.std.specs.Prelude.{ℕ, zero, suc, ◌+◌, ◌-◌, nat_le, nat_lt, if◌then◌else◌, List, [], ◌∷◌, ◌++◌, length, take, drop, slice_index, Option, None, Some, filter}
use Rattle.std.specs.List.{last_or, range_with_len, position_or_len, prefix_len}
use Rattle.std.specs.Option.{option_or}
use Rattle.bt_text.specs.declared.output.Output.{Output}
use Rattle.bt_text.specs.ByteTests.{is_white, space}
use Rattle.bt_text.specs.White.{trimmed_end}

-- how many bytes a line has at most, if it can be broken
abbrev pub line_width : ℕ
line_width = 79

-- the first place at which a line may be broken
abbrev pub first_break : ℕ
first_break = 3

-- the greatest of the places 3 to 79 that holds white space
unfoldable pub near_break : List ℕ → Option ℕ
near_break t =
    last_or None (filter (λ i. is_white (slice_index t i)) (range_with_len first_break (line_width + 1 - first_break)))

-- the last byte of the first run of white space that begins at place i or after it
abbrev pub run_end : List ℕ → ℕ → Option ℕ
run_end t i =
    let start = i + position_or_len is_white (drop i t) in
    if nat_lt start (length t) then Some (start + prefix_len is_white (drop start t) - 1) else None

-- where a text of more than 79 bytes is broken
abbrev pub break_place : List ℕ → Option ℕ
break_place t = if nat_le (length t) line_width then None else option_or (near_break t) (run_end t (line_width + 1))

-- A line loses the white space at its end, and is written unless nothing is left of it.
abbrev pub line_unless_empty : List ℕ → List (List ℕ)
line_unless_empty t = elim (trimmed_end t) [ [] ↦ [] | b ∷ rest ↦ (b ∷ rest) ∷ [] ]

-- At most n breaks: the text before a break place is a line, and two spaces and what stands after it are broken in turn.
abbrev pub broken_within : ℕ → List ℕ → Output
broken_within zero t = record { lines = []; held = t }
broken_within (suc n) t = elim (break_place t) [
  | None ↦ record { lines = []; held = t }
  | Some i ↦
      let b = broken_within n (space ∷ space ∷ drop (i + 1) t) in
      record { lines = line_unless_empty (take i t) ++ b.lines; held = b.held }
]

-- Each break makes a text shorter, so it has fewer breaks than bytes.
abbrev pub broken : List ℕ → Output
broken t = broken_within (length t) t
