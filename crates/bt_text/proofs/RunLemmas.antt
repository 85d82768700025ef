-- Bytes before the first left brace are blocks of their own.
use Rattle.std.proofs.Common.{◌≡◌, ◌≢◌, ℕ, zero, suc, ◌+◌, ◌<◌, ◌≤◌, Bool, true, false, cond, ◌||◌, eqb, count_by, List, [], ◌∷◌, ◌++◌, length, get_or, take, drop, map, flat_map, Option, Some, None, refl, sym, ap, ◌∙◌, arith}
use Rattle.std.specs.Option.{unwrap_or}
use Rattle.std.proofs.lemmas.Bool.{eqb-true}
use Rattle.memchr.specs.Find.{IsFirstByte, is_byte, is_byte2}
use Rattle.bt_text.specs.Blocks.{blocks}
use Rattle.bt_text.specs.Length.{text_length_of}
use Rattle.bt_text.specs.Pieces.{block_pieces, is_character, other, pieces}
use Rattle.std.proofs.lemmas.List.Sums.{sum_by-cons}
use Rattle.bt_text.specs.Depth.{depth_after}
use Rattle.bt_text.proofs.BlockLemmas.{blocks_from, blocks_from_start}
use Rattle.bt_text.specs.inner.Runs.{alone}

not_true : (v : Bool) → (v ≡ true → ⊥) → v ≡ false
not_true true h = absurd (h refl)
not_true false h = refl

or_first : (a c : Bool) → (a || c) ≡ false → a ≡ false
or_first true c e = e
or_first false c e = refl

-- a byte that is no left brace leaves depth 0 as it is
stays_flat : (b : ℕ) → eqb b 123 ≡ false → depth_after 0 b ≡ 0
stays_flat b e = rw e (by_test (eqb b 125))
  where
    by_test : (a : Bool) → cond {A = ℕ} a 0 0 ≡ 0
    by_test true = refl
    by_test false = refl

run_from : (k : ℕ) (t : List ℕ) → ((j : ℕ) → j < k → eqb (get_or t j 0) 123 ≡ true → ⊥) → blocks_from 0 t ≡ alone (take k t) ++ blocks_from 0 (drop k t)
run_from zero t none = refl
run_from (suc k) [] none = refl
run_from (suc k) (b ∷ t) none =
    let flat = stays_flat b (not_true (eqb b 123) (none 0 (omega arith))) in
    rw flat (ap (λ r. (b ∷ []) ∷ r) (run_from k t (λ j lt. none (suc j) (omega arith))))

pub run_blocks : (k : ℕ) (t : List ℕ) → ((j : ℕ) → j < k → eqb (get_or t j 0) 123 ≡ true → ⊥) → blocks t ≡ alone (take k t) ++ blocks (drop k t)
run_blocks k t none = blocks_from_start t ∙ run_from k t none ∙ ap (λ r. alone (take k t) ++ r) (sym (blocks_from_start (drop k t)))

pub run_of : (t : List ℕ) (r : Option ℕ) → IsFirstByte (is_byte 123) t r → blocks t ≡ alone (take (unwrap_or r (length t)) t) ++ blocks (drop (unwrap_or r (length t)) t)
run_of t None found = run_blocks (length t) t (λ j lt. found j (omega arith) lt)
run_of t (Some k) found = run_blocks k t (λ j lt. found.0.before j (omega arith) lt)

pub run_within : (t : List ℕ) (r : Option ℕ) → IsFirstByte (is_byte 123) t r → unwrap_or r (length t) ≤ length t
run_within t None found = omega arith
run_within t (Some k) found = omega (arith, found.0.high)

pub run_some : (t : List ℕ) (r : Option ℕ) → IsFirstByte (is_byte 123) t r → get_or t 0 0 ≢ 123 → 0 < length t → 0 < unwrap_or r (length t)
run_some t None found h some = some
run_some t (Some zero) found h some = absurd (h (eqb-true _ _ found.1))
run_some t (Some (suc k)) found h some = omega arith

-- Bytes before the first brace are characters.
bare_from : (k : ℕ) (t : List ℕ) → k ≤ length t → ((j : ℕ) → j < k → (eqb (get_or t j 0) 123 || eqb (get_or t j 0) 125) ≡ true → ⊥) → count_by is_character (flat_map block_pieces (blocks_from 0 t)) ≡ k + count_by is_character (flat_map block_pieces (blocks_from 0 (drop k t)))
bare_from zero t le none = omega arith
bare_from (suc k) [] le none = absurd (omega arith)
bare_from (suc k) (b ∷ t) le none =
    let bare = not_true (eqb b 123 || eqb b 125) (none 0 (omega arith)) in
    rw (stays_flat b (or_first (eqb b 123) (eqb b 125) bare), bare) (omega (arith, bare_from k t (omega arith) (λ j lt. none (suc j) (omega arith)), sum_by-cons (λ p. cond {A = ℕ} (is_character p) 1 0) (other b) (flat_map block_pieces (blocks_from 0 t))))

bare_blocks : (k : ℕ) (t : List ℕ) → k ≤ length t → ((j : ℕ) → j < k → (eqb (get_or t j 0) 123 || eqb (get_or t j 0) 125) ≡ true → ⊥) → text_length_of t ≡ k + text_length_of (drop k t)
bare_blocks k t le none = rw (blocks_from_start t, blocks_from_start (drop k t)) (bare_from k t le none)

pub bare_of : (t : List ℕ) (r : Option ℕ) → IsFirstByte (is_byte2 123 125) t r → text_length_of t ≡ unwrap_or r (length t) + text_length_of (drop (unwrap_or r (length t)) t)
bare_of t None found = bare_blocks (length t) t (omega arith) (λ j lt. found j (omega arith) lt)
bare_of t (Some k) found = bare_blocks k t (omega (arith, found.0.high)) (λ j lt. found.0.before j (omega arith) lt)

pub bare_within : (t : List ℕ) (r : Option ℕ) → IsFirstByte (is_byte2 123 125) t r → unwrap_or r (length t) ≤ length t
bare_within t None found = omega arith
bare_within t (Some k) found = omega (arith, found.0.high)

-- Bytes before the first brace are pieces of their own.
bare_split : (k : ℕ) (t : List ℕ) → ((j : ℕ) → j < k → (eqb (get_or t j 0) 123 || eqb (get_or t j 0) 125) ≡ true → ⊥) → flat_map block_pieces (blocks_from 0 t) ≡ map other (take k t) ++ flat_map block_pieces (blocks_from 0 (drop k t))
bare_split zero t none = refl
bare_split (suc k) [] none = refl
bare_split (suc k) (b ∷ t) none =
    let bare = not_true (eqb b 123 || eqb b 125) (none 0 (omega arith)) in
    rw (stays_flat b (or_first (eqb b 123) (eqb b 125) bare), bare) (ap (λ ps. other b ∷ ps) (bare_split k t (λ j lt. none (suc j) (omega arith))))

bare_at : (k : ℕ) (t : List ℕ) → ((j : ℕ) → j < k → (eqb (get_or t j 0) 123 || eqb (get_or t j 0) 125) ≡ true → ⊥) → pieces t ≡ map other (take k t) ++ pieces (drop k t)
bare_at k t none = rw (blocks_from_start t, blocks_from_start (drop k t)) (bare_split k t none)

pub bare_pieces : (t : List ℕ) (r : Option ℕ) → IsFirstByte (is_byte2 123 125) t r → (k : ℕ) → k ≤ unwrap_or r (length t) → pieces t ≡ map other (take k t) ++ pieces (drop k t)
bare_pieces t None found k le = bare_at k t (λ j lt. found j (omega arith) (omega arith))
bare_pieces t (Some m) found k le = bare_at k t (λ j lt. found.0.before j (omega arith) (omega arith))
