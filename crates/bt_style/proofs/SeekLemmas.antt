-- The first byte that passes a test, found by its place.
use Rattle.std.specs.List.{before_first, position_or_len}
use Rattle.std.specs.Option.{unwrap_or}
use Rattle.std.proofs.Common.{◌≡◌, ◌∙◌, sym, ℕ, Bool, true, false, List, length, Option, Some, None, refl, arith}
use Rattle.std.proofs.lemmas.List.Sums.{position_or_len_is}
use Rattle.std.proofs.lemmas.List.Folds.{length-prefix_len}
use Rattle.memchr.specs.Find.{IsFirstByte}

pub not_true : (v : Bool) → (v ≡ true → ⊥) → v ≡ false
not_true true n = absurd (n refl)
not_true false n = refl

first_at : (test : ℕ → Bool) (bytes : List ℕ) (r : Option ℕ) → IsFirstByte test bytes r → position_or_len test bytes ≡ unwrap_or r (length bytes)
first_at test bytes None found =
    position_or_len_is test bytes (length bytes) 0 (omega arith) (λ j lt. not_true _ (found j (omega arith) lt)) (λ lt. absurd (omega arith))
first_at test bytes (Some k) found =
    position_or_len_is test bytes k 0 (omega (arith, found.0.high)) (λ j lt. not_true _ (found.0.before j (omega arith) lt)) (λ _. found.1)

-- as many bytes as stand before it, or all where there is none
pub stands_before : (test : ℕ → Bool) (bytes : List ℕ) (r : Option ℕ) → IsFirstByte test bytes r → unwrap_or r (length bytes) ≡ length (before_first test bytes)
stands_before test bytes r found = sym (first_at test bytes r found) ∙ sym (length-prefix_len _ bytes)
