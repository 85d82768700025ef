-- The sections of a text, one after another, and where a token begins.
use Rattle.std.specs.Prelude.{ℕ, ◌==◌, Bool, false, not, ◌||◌, List, [], ◌∷◌, drop, slice_index_or}
use Rattle.std.specs.List.{slice_split}
use Rattle.bt_text.specs.Blocks.{blocks}
use Rattle.bt_names.specs.Cuts.{comma, is_parting}
use Rattle.bt_names.specs.inner.Cases.{is_comma}

-- the sections of a text that has no right brace at depth 0
abbrev pub sections_from : List ℕ → List (List (List ℕ))
sections_from t = slice_split is_comma (blocks t)

-- the blocks before the first comma at depth 0, and the sections after it
abbrev pub first_section : List ℕ → List (List ℕ)
first_section t = slice_index_or (sections_from t) 0 []

abbrev pub other_sections : List ℕ → List (List (List ℕ))
other_sections t = drop 1 (sections_from t)

-- A text begins with a token.
abbrev pub begins_token : List ℕ → Bool
begins_token [] = false
begins_token (b ∷ t) = not (is_parting b || b == comma)
