-- The first line of a text.
use Rattle.std.proofs.Common.{◌≡◌, ℕ, zero, suc, ◌<◌, ◌≤◌, true, List, [], ◌∷◌, length, take, get_or, Some, None, refl, arith}
use Rattle.std.proofs.lemmas.Grind.{common_steps}
use Rattle.memchr.specs.Find.{IsFirstByte, is_byte2}
use Rattle.bt_positions.specs.Lines.{first_line}

-- The first line is the bytes before its end.
pub take_first_line : (t : List ℕ) → take (length (first_line t)) t ≡ first_line t
take_first_line [] = refl
take_first_line (b ∷ t) = grind (arith, common_steps, take_first_line t)

-- The first line ends before the first LF or CR,
ends_at : (k : ℕ) (t : List ℕ) → ((j : ℕ) → j < k → is_byte2 10 13 (get_or t j 0) ≡ true → ⊥) → k < length t → is_byte2 10 13 (get_or t k 0) ≡ true →
    k ≡ length (first_line t)
ends_at k [] before lt here = absurd (omega (arith, lt))
ends_at zero (b ∷ t) before lt here = grind (arith, common_steps)
ends_at (suc k) (b ∷ t) before lt here =
    grind (arith, common_steps, before 0 (omega arith), ends_at k t (λ j le. before (suc j) (omega (arith, le))) (omega (arith, lt)) here)

pub first_end : (k : ℕ) (t : List ℕ) → IsFirstByte (is_byte2 10 13) t (Some k) → k ≡ length (first_line t)
first_end k t found = ends_at k t (λ j lt. found.0.before j (omega arith) lt) found.0.high found.1

-- or at the text's end, if it has neither.
ends_nowhere : (t : List ℕ) → ((j : ℕ) → j < length t → is_byte2 10 13 (get_or t j 0) ≡ true → ⊥) → length t ≡ length (first_line t)
ends_nowhere [] none = refl
ends_nowhere (b ∷ t) none = grind (arith, common_steps, none 0 (omega arith), ends_nowhere t (λ j lt. none (suc j) (omega (arith, lt))))

pub no_end : (t : List ℕ) → IsFirstByte (is_byte2 10 13) t None → length t ≡ length (first_line t)
no_end t none = ends_nowhere t (λ j lt. none j (omega arith) lt)

pub first_within : (t : List ℕ) → length (first_line t) ≤ length t
first_within [] = omega arith
first_within (b ∷ t) = grind (arith, common_steps, first_within t)
