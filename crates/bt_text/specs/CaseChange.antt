-- The change of case.
use Rattle.std.specs.Prelude.{ℕ, Bool, true, false, ◌&&◌, ◌==◌, if◌then◌else◌, List, [], ◌∷◌, ◌++◌, map, flat_map}
use Rattle.std.specs.Char.{to_ascii_lowercase, to_ascii_uppercase}
use Rattle.bt_text.specs.declared.modes.Mode.{Mode}
use Rattle.bt_text.specs.declared.modes.Mode.TheVariants.{Title, Lower, Upper}
use Rattle.bt_text.specs.Blocks.{begins_group, begins_special, blocks}
use Rattle.bt_text.specs.ByteTests.{backslash, is_white}
use Rattle.bt_text.specs.NameList.{is_among}
use Rattle.bt_text.specs.Special.{Symbol, control, is_foreign, plain, symbols, without_large_form}
use Rattle.bt_text.specs.White.{ends_in, trimmed_end}

abbrev pub changed_byte : Mode → ℕ → ℕ
changed_byte Upper b = to_ascii_uppercase b
changed_byte Lower b = to_ascii_lowercase b
changed_byte Title b = to_ascii_lowercase b

-- A foreign letter changes its name, or loses its backslash and gap if it has no large form. Other control
-- sequences stay.
abbrev pub small_control : (name gap : List ℕ) → List ℕ
small_control name gap = backslash ∷ (if is_foreign name then map to_ascii_lowercase name else name) ++ gap

abbrev pub large_control : (name gap : List ℕ) → List ℕ
large_control name gap =
    if is_among without_large_form name then map to_ascii_uppercase name
    else backslash ∷ (if is_foreign name then map to_ascii_uppercase name else name) ++ gap

abbrev pub changed_symbol : Mode → Symbol → List ℕ
changed_symbol mode (control name gap) =
    (let changed : (name gap : List ℕ) → List ℕ = elim mode [ Upper ↦ large_control | _ ↦ small_control ] in changed name gap)
changed_symbol mode (plain b) = changed_byte mode b ∷ []

-- A group that isn't special stays.
abbrev pub changed_block : Mode → List ℕ → List ℕ
changed_block mode block =
    if begins_special block then flat_map (changed_symbol mode) (symbols block)
    else (if begins_group block then block else map (changed_byte mode) block)

-- Whether the mode leaves the block after `front` as it is: in a title, if `front` is empty, or ends in a colon and
-- white space.
abbrev pub is_spared : Mode → List ℕ → Bool
is_spared Title [] = true
is_spared Title (b ∷ t) = ends_in is_white (b ∷ t) && ends_in (λ c. c == 58) (trimmed_end (b ∷ t))
is_spared Lower front = false
is_spared Upper front = false

abbrev pub changed_after : Mode → List ℕ → List (List ℕ) → List ℕ
changed_after mode front [] = []
changed_after mode front (block ∷ rest) =
    (if is_spared mode front then block else changed_block mode block) ++ changed_after mode (front ++ block) rest

abbrev pub changed_case : Mode → List ℕ → List ℕ
changed_case mode t = changed_after mode [] (blocks t)
