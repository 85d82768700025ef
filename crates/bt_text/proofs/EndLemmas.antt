-- The last byte that counts, from the end.
use Rattle.std.proofs.Common.{◌≡◌, ◌≢◌, ◌⊎◌, inl, inr, ℕ, ◌+◌, ◌-◌, ◌<◌, true, false, cond, eqb, not, List, length, get_or, take, Some, refl, ap, sym, ◌∙◌, arith}
use Rattle.std.proofs.lemmas.Bool.Decides.{eqb_tells}
use Rattle.bt_text.specs.inner.Endings.{last_counting}
use Rattle.bt_text.proofs.PeriodLemmas.{last_kept_more}
use Rattle.std.proofs.lemmas.List.{take_all}

pub last_byte : (t : List ℕ) → 0 < length t → last_counting t ≡ cond (not (eqb (get_or t (length t - 1) 0) 125)) (Some (get_or t (length t - 1) 0)) (last_counting (take (length t - 1) t))
last_byte t some =
    let whole = take_all (length t - 1 + 1) t (omega arith) in
    ap last_counting (sym whole) ∙ last_kept_more (λ b. not (eqb b 125)) t (length t - 1) (omega arith)

pub last_kept : (t : List ℕ) → 0 < length t → get_or t (length t - 1) 0 ≢ 125 → last_counting t ≡ Some (get_or t (length t - 1) 0)
last_kept t some other = last_byte t some ∙ by_tells (eqb_tells (get_or t (length t - 1) 0) 125)
  where
    by_tells : ((eqb (get_or t (length t - 1) 0) 125 ≡ true) × (get_or t (length t - 1) 0 ≡ 125)) ⊎ ((eqb (get_or t (length t - 1) 0) 125 ≡ false) × (get_or t (length t - 1) 0 ≢ 125)) → cond (not (eqb (get_or t (length t - 1) 0) 125)) (Some (get_or t (length t - 1) 0)) (last_counting (take (length t - 1) t)) ≡ Some (get_or t (length t - 1) 0)
    by_tells (inl e) = absurd (other e.1)
    by_tells (inr n) = rw n.0 refl
