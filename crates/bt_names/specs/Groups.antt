-- What the groups of a pattern give.
use Rattle.std.specs.Prelude.{ℕ, Bool, ◌-◌, ◌==◌, if◌then◌else◌, List, [], ◌∷◌, ◌++◌, length, take, drop, flat_map, slice_index}
use Rattle.std.specs.Char.{to_ascii_lowercase}
use Rattle.bt_text.specs.ByteTests.{space, tie}
use Rattle.bt_text.specs.Blocks.{blocks, begins_group}
use Rattle.bt_text.specs.White.{ends_in}
use Rattle.bt_names.specs.declared.tokens.Token.{Token}
use Rattle.bt_names.specs.declared.tokens.Parts.{Parts}
use Rattle.bt_names.specs.declared.spelling.Form.{Form}
use Rattle.bt_names.specs.declared.spelling.Form.TheVariants.{Whole, Initials}
use Rattle.bt_names.specs.Patterns.{inside_group, is_doubled_at, letter_end, letter_places}
use Rattle.bt_names.specs.Spelling.{first_block, spelled}
use Rattle.bt_names.specs.Joints.{Between, by_text, by_signs, is_short, joined}

abbrev pub ends_in_tie : List ℕ → Bool
ends_in_tie out = ends_in (λ b. b == tie) out

-- Of two ties at a group's end one is dropped. A single one becomes a space, unless fewer than 3 text characters come
-- before it.
abbrev pub group_finished : List ℕ → List ℕ
group_finished out =
    let front = take (length out - 1) out in
    if ends_in_tie out
    then (if ends_in_tie front then front else (if is_short front then out else front ++ space ∷ []))
    else out

-- the tokens of the part that a letter names: `f` (102), `v` (118), `l` (108), or `j`
abbrev pub part_named : Parts → ℕ → List Token
part_named parts b =
    let letter = to_ascii_lowercase b in
    if letter == 102 then parts.first
    else (if letter == 118 then parts.von else (if letter == 108 then parts.last else parts.jr))

-- the tokens of a part, with what comes before and after them in the group; nothing for an empty part
abbrev pub put_in : Between → List ℕ → List Token → List ℕ → List ℕ
put_in between before [] behind = []
put_in between before (w ∷ rest) behind = group_finished (joined between (before ++ w.text) rest ++ behind)

-- A letter stands for the whole tokens if it is doubled, else for their initials.
abbrev pub form_at : List ℕ → ℕ → Form
form_at t i = if is_doubled_at t i then Whole else Initials

-- A group directly after the letter gives the text between tokens, and isn't copied itself.
abbrev pub with_tokens : List ℕ → Form → List Token → List ℕ → List ℕ
with_tokens before form ws behind =
    let block = first_block behind in
    if begins_group block
    then put_in (by_text (inside_group block)) before ws (drop (length block) behind)
    else put_in (by_signs form) before ws behind

-- what a group gives, by the places of its letters
abbrev pub group_output : Parts → List ℕ → List ℕ → List ℕ
group_output parts t [] = group_finished t
group_output parts t (i ∷ is) =
    let form = form_at t i in
    with_tokens (take i t) form (spelled form (part_named parts (slice_index t i))) (drop (letter_end t i) t)

-- Bytes outside of groups are copied.
abbrev pub block_output : Parts → List ℕ → List ℕ
block_output parts block =
    if begins_group block then group_output parts (inside_group block) (letter_places (inside_group block)) else block

-- the parts in a pattern
abbrev pub formatted : Parts → List ℕ → List ℕ
formatted parts pattern = flat_map (block_output parts) (blocks pattern)
