-- The value of parts joined by `#`, and its warnings.
use Rattle.std.specs.Prelude.{ℕ, ◌-◌, Bool, false, ◌==◌, nat_lt, List, [], ◌∷◌, ◌++◌, length, take, drop, slice_index, Option, Some, None, unwrap_or, if◌then◌else◌}
use Rattle.std.specs.List.{flat_map}
use Rattle.bt_text.specs.CaseFolding.{is_same_folded}
use Rattle.bt_text.specs.White.{white_joined}
use Rattle.bt_bib.specs.declared.item.Part.{Part}
use Rattle.bt_bib.specs.declared.item.Part.TheVariants.{Text, Macro}
use Rattle.bt_log.specs.declared.message.Message.{Message}
use Rattle.bt_resolve.specs.declared.place.Origin.{Origin}
use Rattle.bt_resolve.specs.Warnings.{line_at, undefined_macro, own_macro, too_long}

-- what each macro stands for, if it is defined
abbrev pub MacroTexts : Type 0
MacroTexts = List ℕ → Option (List ℕ)

-- an optional text is present, and matches a name
abbrev pub is_named : Option (List ℕ) → List ℕ → Bool
is_named None name = false
is_named (Some text) name = is_same_folded text name

-- the macros, except the one that is being defined
abbrev pub others : Option (List ℕ) → MacroTexts → MacroTexts
others own macros name = if is_named own name then None else macros name

-- the texts of the parts, joined; nothing for a macro that isn't defined
abbrev pub joined_parts : MacroTexts → List Part → List ℕ
joined_parts macros parts =
    flat_map (λ (p : Part). elim p [ Text text ↦ text | Macro name line ↦ unwrap_or (macros name) [] ]) parts

-- nothing if a text exceeds the limit, else the text
abbrev pub within_limit : List ℕ → Option (List ℕ)
within_limit text = if nat_lt 65536 (length text) then None else Some text

-- The value of a string or a preamble: the parts' texts joined, each run of white space one space. It is empty if the
-- joined texts have more than 65,536 bytes.
unfoldable pub value : MacroTexts → List Part → List ℕ
value macros parts = elim (within_limit (joined_parts macros parts)) [ None ↦ [] | Some text ↦ white_joined text ]

abbrev pub without_first_space : List ℕ → List ℕ
without_first_space t = if slice_index t 0 == 32 then drop 1 t else t

abbrev pub without_last_space : List ℕ → List ℕ
without_last_space t = if slice_index t (length t - 1) == 32 then take (length t - 1) t else t

-- the value of a field, without spaces at its ends
unfoldable pub field_value : MacroTexts → List Part → List ℕ
field_value macros parts = without_last_space (without_first_space (value macros parts))

-- a macro that isn't defined here yields a warning
abbrev pub part_warnings : Option (List ℕ) → MacroTexts → Origin → Part → List Message
part_warnings own macros origin (Text text) = []
part_warnings own macros origin (Macro name line) =
    (let place = line_at origin line in
    elim (others own macros name) [
      | Some text ↦ []
      | None ↦ if is_named own name then own_macro place name ∷ [] else undefined_macro place name ∷ []
    ])

-- The warnings of a value: those about its macros, each at its own line, and, at the line of its name, the one that it
-- is too long.
unfoldable pub value_warnings : Option (List ℕ) → MacroTexts → Origin → ℕ → List ℕ → List Part → List Message
value_warnings own macros origin line name parts =
    flat_map (part_warnings own macros origin) parts
    ++ elim (within_limit (joined_parts (others own macros) parts)) [
      | None ↦ too_long (line_at origin line) name ∷ []
      | Some text ↦ []
    ]
