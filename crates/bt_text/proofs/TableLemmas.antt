-- Tables that have an entry for each byte.
use Rattle.std.proofs.Common.{◌≡◌, ℕ, ◌<◌, List, get_or, map, ap, ◌∙◌, arith}
use Rattle.std.specs.List.{range_with_len}
use Rattle.std.proofs.lemmas.List.FromFn.{get_or-map-range_with_len}

-- A table that is a function of the byte answers as the function does.
pub table_entry : (table : List ℕ) (f : ℕ → ℕ) (i b : ℕ) → table ≡ map f (range_with_len 0 256) → i ≡ b → b < 256 → get_or table i 0 ≡ f b
table_entry table f i b same is h =
    ap (λ (k : ℕ). get_or table k 0) is ∙ ap (λ (t : List ℕ). get_or t b 0) same ∙ get_or-map-range_with_len f 0 256 b b 0 h (omega arith)
