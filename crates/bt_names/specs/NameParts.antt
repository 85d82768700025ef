-- The four parts of a name.
use Rattle.std.specs.Prelude.{ℕ, ◌+◌, ◌-◌, nat_lt, ◌==◌, not, if◌then◌else◌, List, [], ◌∷◌, ◌++◌, length, take, drop, slice_range, Option, None, Some}
use Rattle.std.specs.List.{position_or_len, suffix_len}
use Rattle.bt_text.specs.ByteTests.{hyphen}
use Rattle.bt_names.specs.declared.tokens.Token.{Token}
use Rattle.bt_names.specs.declared.tokens.Parts.{Parts}
use Rattle.bt_names.specs.Cuts.{sections, runs, tokens, lead_after}
use Rattle.bt_names.specs.Vons.{is_von}

-- The last token is never of the von part.
abbrev pub all_but_last : List Token → List Token
all_but_last ws = take (length ws - 1) ws

-- how many tokens stand before the first von token, and up to the last one with it
abbrev pub von_start : List Token → ℕ
von_start ws = position_or_len is_von (all_but_last ws)

abbrev pub von_end : List Token → ℕ
von_end ws = length (all_but_last ws) - suffix_len (λ w. not (is_von w)) (all_but_last ws)

-- how many tokens stand before the last one and those that hyphens tie to it
abbrev pub last_start : List Token → ℕ
last_start ws = length ws - (suffix_len (λ w. w.before == hyphen) ws + 1)

-- First, von and Last, cut at two places
abbrev pub split_at_two : List Token → ℕ → ℕ → Parts
split_at_two ws start end =
    record { first = take start ws; von = slice_range ws start end; last = drop end ws; jr = [] }

-- without a comma: First von Last, or First Last
abbrev pub without_comma : List Token → Parts
without_comma ws =
    if nat_lt (von_start ws) (von_end ws)
    then split_at_two ws (von_start ws) (von_end ws)
    else split_at_two ws (last_start ws) (last_start ws)

-- with commas: von Last, Jr, First
abbrev pub with_commas : (before jr first : List Token) → Parts
with_commas ws jr first = record { first = first; von = take (von_end ws) ws; last = drop (von_end ws) ws; jr = jr }

-- the tokens of a section, after those of the sections before it
abbrev pub section_tokens : List Token → List (List ℕ) → List Token
section_tokens earlier section = tokens (lead_after earlier) (runs section)

-- With more than two commas a name has no parts.
abbrev pub parts_of_sections : List (List (List ℕ)) → Option Parts
parts_of_sections (a ∷ []) = Some (without_comma (section_tokens [] a))
parts_of_sections (a ∷ b ∷ []) =
    let front = section_tokens [] a in
    Some (with_commas front [] (section_tokens front b))
parts_of_sections (a ∷ b ∷ c ∷ []) =
    let front = section_tokens [] a in
    let jr = section_tokens front b in
    Some (with_commas front jr (section_tokens (front ++ jr) c))
parts_of_sections _ = None

-- the parts of a name
abbrev pub parts_of : List ℕ → Option Parts
parts_of name = parts_of_sections (sections name)
