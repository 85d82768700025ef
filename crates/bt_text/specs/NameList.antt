-- Lists of names. Names match without regard to case, except in `is_among`.
use Rattle.std.specs.Prelude.{ℕ, Bool, true, ◌&&◌, not, List, [], ◌∷◌, Option, Some, None, if◌then◌else◌, bytes_eq}
use Rattle.std.specs.List.{list_any}
use Rattle.bt_text.specs.CaseFolding.{is_same_folded}

-- whether a name is among names, byte for byte
abbrev pub is_among : List (List ℕ) → List ℕ → Bool
is_among names name = list_any (λ n. bytes_eq n name) names

-- whether a name is among names
abbrev pub has_name : List (List ℕ) → List ℕ → Bool
has_name names name = list_any (λ n. is_same_folded n name) names

-- the first of the names that matches a name
abbrev pub same_name : List ℕ → List (List ℕ) → Option (List ℕ)
same_name name [] = None
same_name name (n ∷ ns) = if is_same_folded n name then Some n else same_name name ns

-- no two of the names match
abbrev pub are_apart : List (List ℕ) → Bool
are_apart [] = true
are_apart (name ∷ names) = not (has_name names name) && are_apart names
