-- The faults of a pattern.
use Rattle.std.specs.Prelude.{ℕ, ◌+◌, ◌-◌, ◌==◌, Bool, ◌&&◌, if◌then◌else◌, List, [], ◌∷◌, length, take, drop, filter, slice_index, Option, None, Some, codes, slice_get}
use Rattle.std.specs.Char.{to_ascii_lowercase}
use Rattle.std.specs.List.{list_any, range_with_len}
use Rattle.std.specs.Option.{option_or}
use Rattle.bt_text.specs.ByteTests.{is_letter, right_brace}
use Rattle.bt_text.specs.Blocks.{blocks, begins_group}
use Rattle.bt_text.specs.Depth.{depth, depth_at}
use Rattle.bt_names.specs.Cuts.{is_single}

-- A block that begins with a left brace is a group. What stands inside it goes up to its right brace, or to the
-- pattern's end if it has none.
abbrev pub inside_group : List ℕ → List ℕ
inside_group group = if depth group == 0 then take (length group - 2) (drop 1 group) else drop 1 group

-- the places of the letters at depth 0 of what stands inside a group, from a place on
abbrev pub letters_from : List ℕ → ℕ → List ℕ
letters_from t start =
    filter (λ i. is_letter (slice_index t i) && depth_at t i == 0) (range_with_len start (length t - start))

abbrev pub letter_places : List ℕ → List ℕ
letter_places t = letters_from t 0

-- `f`, `v`, `l` and `j` name a part, in either case.
abbrev pub names_part : ℕ → Bool
names_part b = list_any (λ letter. letter == to_ascii_lowercase b) (codes "fvlj")

-- The same letter, in either case, stands at place i and directly after it.
abbrev pub is_doubled_at : List ℕ → ℕ → Bool
is_doubled_at t i = to_ascii_lowercase (slice_index t i) == to_ascii_lowercase (slice_index t (i + 1))

-- the place after the letter, or after both if it is doubled
abbrev pub letter_end : List ℕ → ℕ → ℕ
letter_end t i = if is_doubled_at t i then i + 2 else i + 1

-- The first letter that may not stand there, among those at the places: the first if it names no part,
-- else the second, or the third if the second doubles the first.
abbrev pub letter_fault : List ℕ → List ℕ → Option ℕ
letter_fault t [] = None
letter_fault t (i ∷ is) =
    if names_part (slice_index t i) then slice_get (if is_doubled_at t i then drop 1 is else is) 0 else Some i

abbrev pub moved_by : ℕ → Option ℕ → Option ℕ
moved_by n None = None
moved_by n (Some i) = Some (n + i)

-- the place of the first fault of a block: a right brace, a letter inside a group, the end inside a group
abbrev pub block_fault : List ℕ → Option ℕ
block_fault block =
    if begins_group block
    then option_or (moved_by 1 (letter_fault (inside_group block) (letter_places (inside_group block))))
    (if depth block == 0 then None else Some (length block))
    else (if is_single (λ b. b == right_brace) block then Some 0 else None)

-- the first fault of some blocks, by its place from where the first of them begins
abbrev pub fault_of_blocks : List (List ℕ) → Option ℕ
fault_of_blocks [] = None
fault_of_blocks (block ∷ rest) = option_or (block_fault block) (moved_by (length block) (fault_of_blocks rest))

-- the place of a pattern's first fault
abbrev pub pattern_fault : List ℕ → Option ℕ
pattern_fault pattern = fault_of_blocks (blocks pattern)
