-- An error that begins with a number is no excluded one.
use Rattle.std.proofs.Common.{◌≡◌, ℕ, zero, suc, ◌≤◌, ◌<◌, ◌+◌, ◌/◌, ◌%◌, ℤ, pos, negsuc, Bool, true, false, ◌==◌, List, [], ◌∷◌, ◌++◌, codes, ⊎_elim, refl, sym, subst, arith, mod-lt}
use Rattle.std.specs.Prelude.{if◌then◌else◌}
use Rattle.std.specs.List.{list_any}
use Rattle.std.specs.Fmt.{digit_glyph, digits_onto, digits, decimal}
use Rattle.std.proofs.lemmas.Bool.{cases_eq, cond_below}
use Rattle.bt_style.specs.Builtins.{table}
use Rattle.bt_log.specs.declared.message.Said.TheVariants.{Words}
use Rattle.bt_actions.specs.declared.complaint.Complaint.TheVariants.{NotAscii}
use Rattle.bt_actions.specs.Words.{complaint_words}
use Rattle.bt_sound.specs.Excluded.{excluded, says}
use Rattle.bt_sound.proofs.Messages.{IsHarmless}

-- whether these words are those of an excluded error
abbrev is_excluded : List ℕ → Bool
is_excluded t = list_any (λ c. says (complaint_words c) (Words t)) excluded

by_digit : (P : ℕ → Type 0) → P 48 → P 49 → P 50 → P 51 → P 52 → P 53 → P 54 → P 55 → P 56 → P 57 → (c : ℕ) → 48 ≤ c → c ≤ 57 → P c
by_digit P p48 p49 p50 p51 p52 p53 p54 p55 p56 p57 c h i =
    ⊎_elim (λ e. subst P (sym e) p48) (λ n48.
    ⊎_elim (λ e. subst P (sym e) p49) (λ n49.
    ⊎_elim (λ e. subst P (sym e) p50) (λ n50.
    ⊎_elim (λ e. subst P (sym e) p51) (λ n51.
    ⊎_elim (λ e. subst P (sym e) p52) (λ n52.
    ⊎_elim (λ e. subst P (sym e) p53) (λ n53.
    ⊎_elim (λ e. subst P (sym e) p54) (λ n54.
    ⊎_elim (λ e. subst P (sym e) p55) (λ n55.
    ⊎_elim (λ e. subst P (sym e) p56) (λ n56.
    ⊎_elim (λ e. subst P (sym e) p57) (λ n57. absurd (omega arith)) (cases_eq c 57)) (cases_eq c 56)) (cases_eq c 55)) (cases_eq c 54)) (cases_eq c 53)) (cases_eq c 52)) (cases_eq c 51)) (cases_eq c 50)) (cases_eq c 49)) (cases_eq c 48)

digit_first : (cs : List ℕ) (c : ℕ) → 48 ≤ c → c ≤ 57 → is_excluded (c ∷ cs) ≡ false
unfolding table
digit_first cs = by_digit (λ c. is_excluded (c ∷ cs) ≡ false) refl refl refl refl refl refl refl refl refl refl

digit_second : (cs : List ℕ) (c : ℕ) → 48 ≤ c → c ≤ 57 → is_excluded (45 ∷ c ∷ cs) ≡ false
unfolding table
digit_second cs = by_digit (λ c. is_excluded (45 ∷ c ∷ cs) ≡ false) refl refl refl refl refl refl refl refl refl refl

-- a text that begins with a digit
abbrev BeginsWithDigit : List ℕ → Type 0
BeginsWithDigit [] = ⊥
BeginsWithDigit (c ∷ cs) = (48 ≤ c) × (c ≤ 57)

glyph_in : (d : ℕ) → d < 10 → (48 ≤ digit_glyph false d) × (digit_glyph false d ≤ 57)
glyph_in d h =
    subst (λ c. (48 ≤ c) × (c ≤ 57)) (cond_below d 10 (48 + d) (87 + d) h) (omega arith, omega arith)

last_in : (n : ℕ) → (48 ≤ digit_glyph false (n % 10)) × (digit_glyph false (n % 10) ≤ 57)
last_in n = let some : 0 < 10 = omega arith in glyph_in (n % 10) (mod-lt n some)

begins_if : (t : Bool) (xs ys : List ℕ) → BeginsWithDigit xs → BeginsWithDigit ys → BeginsWithDigit (if t then xs else ys)
begins_if true xs ys h i = h
begins_if false xs ys h i = i

begins_onto : (k n : ℕ) (acc : List ℕ) → BeginsWithDigit acc → BeginsWithDigit (digits_onto k 10 false n acc)
begins_onto zero n acc h = h
begins_onto (suc k) n acc h =
    let more = digit_glyph false (n % 10) ∷ acc in
    begins_if (n / 10 == 0) more (digits_onto k 10 false (n / 10) more) (last_in n) (begins_onto k (n / 10) more (last_in n))

begins_more : (k n : ℕ) → BeginsWithDigit (digits_onto (suc k) 10 false n [])
begins_more k n =
    let more = digit_glyph false (n % 10) ∷ [] in
    begins_if (n / 10 == 0) more (digits_onto k 10 false (n / 10) more) (last_in n) (begins_onto k (n / 10) more (last_in n))

begins : (n : ℕ) → BeginsWithDigit (decimal n)
unfolding digits
begins n = begins_more 63 n

harmless_first : (t u : List ℕ) → BeginsWithDigit t → is_excluded (t ++ u) ≡ false
harmless_first [] u h = absurd h
harmless_first (c ∷ cs) u h = digit_first (cs ++ u) c h.0 h.1

harmless_second : (t u : List ℕ) → BeginsWithDigit t → is_excluded (45 ∷ (t ++ u)) ≡ false
harmless_second [] u h = absurd h
harmless_second (c ∷ cs) u h = digit_second (cs ++ u) c h.0 h.1

pub not_ascii : (n : ℤ) → IsHarmless (NotAscii n)
not_ascii (pos n) key = harmless_first (decimal n) (codes " isn't valid ASCII") (begins n)
not_ascii (negsuc n) key = harmless_second (decimal (suc n)) (codes " isn't valid ASCII") (begins (suc n))
