-- Bytes of a title without a colon.
use Rattle.std.proofs.Common.{◌≡◌, ◌≢◌, ℕ, zero, suc, ◌-◌, ◌<◌, ◌≤◌, Bool, true, false, cond, ◌&&◌, eqb, List, [], ◌∷◌, ◌++◌, length, get_or, take, drop, map, fold, Option, Some, None, append_assoc, refl, sym, ap, ◌∙◌, arith, ◌⊎◌, inl, inr}
use Rattle.std.specs.Option.{unwrap_or}
use Rattle.std.specs.Char.{to_ascii_lowercase}
use Rattle.memchr.specs.Find.{IsFirstByte, is_byte}
use Rattle.std.proofs.lemmas.Bool.{eqb-true, eq-eqb}
use Rattle.std.proofs.lemmas.Bool.Decides.{eqb_tells}
use Rattle.std.proofs.lemmas.List.{take-append-drop}
use Rattle.bt_text.specs.declared.modes.Mode.TheVariants.{Title}
use Rattle.bt_text.specs.ByteTests.{is_white}
use Rattle.bt_text.specs.inner.TitlePlace.{TitlePlace, is_spared_at, next_place}
use Rattle.bt_text.specs.inner.Titles.{IsQuiet, quiet_place, title_run}

quiet_to : (k : ℕ) (t : List ℕ) → ((j : ℕ) → j < k → eqb (get_or t j 0) 58 ≡ true → ⊥) → IsQuiet (take k t)
quiet_to zero t none = λ i lt e. absurd (omega arith)
quiet_to (suc k) [] none = λ i lt e. absurd (omega arith)
quiet_to (suc k) (b ∷ t) none = by_place (quiet_to k t (λ j l. none (suc j) (omega arith)))
  where
    by_place : IsQuiet (take k t) → (i : ℕ) → i < length (b ∷ take k t) → get_or (b ∷ take k t) i 0 ≢ 58
    by_place later zero lt = λ e. none 0 (omega arith) (eq-eqb b 58 e)
    by_place later (suc i) lt = later i (omega arith)

pub quiet_of : (t : List ℕ) (r : Option ℕ) → IsFirstByte (is_byte 58) t r → IsQuiet (take (unwrap_or r (length t)) t)
quiet_of t None found = quiet_to (length t) t (λ j lt. found j (omega arith) lt)
quiet_of t (Some k) found = quiet_to k t (λ j lt. found.0.before j (omega arith) lt)

pub quiet_within : (t : List ℕ) (r : Option ℕ) → IsFirstByte (is_byte 58) t r → unwrap_or r (length t) ≤ length t
quiet_within t None found = omega arith
quiet_within t (Some k) found = omega (arith, found.0.high)

pub quiet_some : (t : List ℕ) (r : Option ℕ) → IsFirstByte (is_byte 58) t r → get_or t 0 0 ≢ 58 → 0 < length t → 0 < unwrap_or r (length t)
quiet_some t None found h some = some
quiet_some t (Some zero) found h some = absurd (h (eqb-true _ _ found.1))
quiet_some t (Some (suc k)) found h some = omega arith

not_eq : (b : ℕ) → b ≢ 58 → eqb b 58 ≡ false
not_eq b n = by_tells (eqb_tells b 58)
  where
    by_tells : ((eqb b 58 ≡ true) × (b ≡ 58)) ⊎ ((eqb b 58 ≡ false) × (b ≢ 58)) → eqb b 58 ≡ false
    by_tells (inl e) = absurd (n e.1)
    by_tells (inr e) = e.0

-- one byte that is no colon, at a place that no colon is before
next_quiet : (p : TitlePlace) (b : ℕ) → p.follows_colon ≡ false → b ≢ 58 → next_place p b ≡ quiet_place b
next_quiet p b no_colon other = rw (no_colon, not_eq b other) (by_test (is_white b))
  where
    by_test : (w : Bool) → record { is_first = false; follows_white = is_white b; follows_colon = cond {A = Bool} w false false } ≡ quiet_place b
    by_test true = refl
    by_test false = refl

tail_quiet : (b : ℕ) (t : List ℕ) → IsQuiet (b ∷ t) → IsQuiet t
tail_quiet b t quiet = λ i lt. quiet (suc i) (omega arith)

pub after_quiet : (p : TitlePlace) (t : List ℕ) → p.follows_colon ≡ false → IsQuiet t → 0 < length t → fold next_place p t ≡ quiet_place (get_or t (length t - 1) 0)
after_quiet p [] no_colon quiet some = absurd (omega arith)
after_quiet p (b ∷ []) no_colon quiet some = next_quiet p b no_colon (quiet 0 (omega arith))
after_quiet p (b ∷ c ∷ t) no_colon quiet some =
    let one = next_quiet p b no_colon (quiet 0 (omega arith)) in
    let last : length (b ∷ c ∷ t) - 1 ≡ suc (length (c ∷ t) - 1) = omega arith in
    ap (λ q. fold next_place q (c ∷ t)) one ∙ after_quiet (quiet_place b) (c ∷ t) refl (tail_quiet b (c ∷ t) quiet) (omega arith) ∙ ap (λ k. quiet_place (get_or (b ∷ c ∷ t) k 0)) (sym last)

-- none of them is spared
pub run_quiet : (p : TitlePlace) (t : List ℕ) → p.is_first ≡ false → p.follows_colon ≡ false → IsQuiet t → title_run p t ≡ map to_ascii_lowercase t
run_quiet p [] later no_colon quiet = refl
run_quiet p (b ∷ t) later no_colon quiet =
    let one = next_quiet p b no_colon (quiet 0 (omega arith)) in
    let rest = run_quiet (quiet_place b) t refl refl (tail_quiet b t quiet) in
    rw (later, one, no_colon) (by_test p.follows_white rest)
  where
    by_test : (w : Bool) → title_run (quiet_place b) t ≡ map to_ascii_lowercase t → cond (w && false) b (to_ascii_lowercase b) ∷ title_run (quiet_place b) t ≡ to_ascii_lowercase b ∷ map to_ascii_lowercase t
    by_test true rest = ap (λ (l : List ℕ). to_ascii_lowercase b ∷ l) rest
    by_test false rest = ap (λ (l : List ℕ). to_ascii_lowercase b ∷ l) rest

title_run-append : (p : TitlePlace) (s t : List ℕ) → title_run p (s ++ t) ≡ title_run p s ++ title_run (fold next_place p s) t
title_run-append p [] t = refl
title_run-append p (b ∷ s) t = ap (λ (l : List ℕ). cond (is_spared_at Title p) b (to_ascii_lowercase b) ∷ l) (title_run-append (next_place p b) s t)

fold-two : (p : TitlePlace) (s t : List ℕ) → fold next_place p (s ++ t) ≡ fold next_place (fold next_place p s) t
fold-two p [] t = refl
fold-two p (b ∷ s) t = fold-two (next_place p b) s t

-- a turn that puts quiet bytes after what is there
pub quiet_pushed : (p q : TitlePlace) (out new t front back all : List ℕ) (n : ℕ) → p.is_first ≡ false → p.follows_colon ≡ false → front ≡ take n t → back ≡ drop n t → IsQuiet front → 0 < length front → new ≡ out ++ map to_ascii_lowercase front → q ≡ quiet_place (get_or front (length front - 1) 0) → out ++ title_run p t ≡ all → new ++ title_run q back ≡ all
quiet_pushed p q out new t front back all n later no_colon is_front is_back quiet some grown moved so_far =
    let whole : front ++ back ≡ t = ap (λ (l : List ℕ). l ++ back) is_front ∙ ap (λ (l : List ℕ). take n t ++ l) is_back ∙ take-append-drop n t in
    let cut : title_run p t ≡ map to_ascii_lowercase front ++ title_run q back = ap (title_run p) (sym whole) ∙ title_run-append p front back ∙ ap (λ (l : List ℕ). l ++ title_run (fold next_place p front) back) (run_quiet p front later no_colon quiet) ∙ ap (λ r. map to_ascii_lowercase front ++ title_run r back) (after_quiet p front no_colon quiet some ∙ sym moved) in
    rw grown (append_assoc out (map to_ascii_lowercase front) (title_run q back) ∙ ap (λ (l : List ℕ). out ++ l) (sym cut) ∙ so_far)

pub quiet_moved : (p q end : TitlePlace) (t front back : List ℕ) (n : ℕ) → p.follows_colon ≡ false → front ≡ take n t → back ≡ drop n t → IsQuiet front → 0 < length front → q ≡ quiet_place (get_or front (length front - 1) 0) → fold next_place p t ≡ end → fold next_place q back ≡ end
quiet_moved p q end t front back n no_colon is_front is_back quiet some moved so_far =
    let whole : front ++ back ≡ t = ap (λ (l : List ℕ). l ++ back) is_front ∙ ap (λ (l : List ℕ). take n t ++ l) is_back ∙ take-append-drop n t in
    ap (λ r. fold next_place r back) (moved ∙ sym (after_quiet p front no_colon quiet some)) ∙ sym (fold-two p front back) ∙ ap (fold next_place p) whole ∙ so_far

-- After a right brace nothing is spared, whatever stands before it.
pub closed_place : (p : TitlePlace) (t : List ℕ) → 0 < length t → get_or t (length t - 1) 0 ≡ 125 → fold next_place p t ≡ record { is_first = false; follows_white = false; follows_colon = false }
closed_place p [] some e = absurd (omega arith)
closed_place p (b ∷ []) some e = ap (next_place p) e
closed_place p (b ∷ c ∷ t) some e =
    let last : length (b ∷ c ∷ t) - 1 ≡ suc (length (c ∷ t) - 1) = omega arith in
    closed_place (next_place p b) (c ∷ t) (omega arith) (sym (ap (λ k. get_or (b ∷ c ∷ t) k 0) last) ∙ e)
