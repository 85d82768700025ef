-- Lists of texts of which many may be missing, as the texts that are there with their places.
use Rattle.std.specs.Prelude.{ℕ, ◌+◌, ◌<◌, ◌≤◌, ◌==◌, drop, List, [], ◌∷◌, map, Option, Some, None, slice_index_or, ⊤, if◌then◌else◌}
use Rattle.std.specs.Option.{option_or}
use Rattle.std.specs.List.{range_with_len}

-- the text of a place, if it is there
abbrev pub text_at : List (ℕ × List ℕ) → ℕ → Option (List ℕ)
text_at [] place = None
text_at ((p, text) ∷ rest) place = if p == place then Some text else text_at rest place

-- the texts of all places below a count, the missing ones too
abbrev pub all_texts : ℕ → List (ℕ × List ℕ) → List (Option (List ℕ))
all_texts count present = map (text_at present) (range_with_len 0 count)

-- the places rise from the first on and are below the count
abbrev pub IsRising : ℕ → ℕ → List (ℕ × List ℕ) → Type 0
IsRising first count [] = ⊤
IsRising first count ((p, text) ∷ rest) = (first ≤ p) × (p < count) × IsRising (p + 1) count rest

-- the texts, each that is missing taken from others
abbrev pub filled_from : List (Option (List ℕ)) → List (Option (List ℕ)) → List (Option (List ℕ))
filled_from [] others = []
filled_from (text ∷ texts) others = option_or text (slice_index_or others 0 None) ∷ filled_from texts (drop 1 others)
