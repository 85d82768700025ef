-- Letters and faults of a pattern.
use Rattle.std.proofs.Common.{◌≡◌, ◌⊎◌, inl, inr, ℕ, suc, ◌+◌, ◌-◌, ◌<◌, ◌≤◌, Bool, true, false, cond, eqb, ◌&&◌, List, [], ◌∷◌, length, get_or, take, drop, filter, Option, Some, sym, ap, ◌∙◌, arith, slice_get}
use Rattle.std.specs.List.{range_with_len}
use Rattle.std.proofs.lemmas.List.{get_or_past}
use Rattle.std.proofs.lemmas.Bool.{cases_lt, true≢false, false≢true, cases_Bool, cond-true, cond-false, eqb-true, eq-eqb, and_from}
use Rattle.std.proofs.lemmas.Bool.Decides.{nat_tests}
use Rattle.bt_text.specs.ByteTests.{is_letter}
use Rattle.std.specs.Char.{to_ascii_lowercase}
use Rattle.bt_text.specs.Depth.{depth, depth_after}
use Rattle.bt_text.proofs.BlockLemmas.{depth_take}
use Rattle.bt_names.specs.Patterns.{is_doubled_at, letter_fault, letter_places, names_part, letters_from}
use Rattle.bt_names.specs.inner.Patterns.{IsLetterPlace}

pub letters_more : (t : List ℕ) (i : ℕ) → i < length t → letters_from t i ≡ cond (is_letter (get_or t i 0) && eqb (depth (take i t)) 0) (i ∷ letters_from t (i + 1)) (letters_from t (i + 1))
letters_more t i h =
    let p = λ (i : ℕ). is_letter (get_or t i 0) && eqb (depth (take i t)) 0 in
    let more : length t - i ≡ suc (length t - (i + 1)) = omega arith in
    ap (λ n. filter p (range_with_len i n)) more

pub letters_end : (t : List ℕ) (i : ℕ) → length t ≤ i → letters_from t i ≡ []
letters_end t i h =
    let p = λ (i : ℕ). is_letter (get_or t i 0) && eqb (depth (take i t)) 0 in
    let none : length t - i ≡ 0 = omega arith in
    ap (λ n. filter p (range_with_len i n)) none

pub letters_skipped : (t : List ℕ) (i d : ℕ) → i < length t → d ≡ depth (take i t) → (is_letter (get_or t i 0) && eqb d 0) ≡ false → letters_from t (i + 1) ≡ letters_from t i
letters_skipped t i d h g e =
    let here = ap (λ d. is_letter (get_or t i 0) && eqb d 0) (sym g) ∙ e in
    sym (letters_more t i h ∙ cond-false (is_letter (get_or t i 0) && eqb (depth (take i t)) 0) (i ∷ letters_from t (i + 1)) (letters_from t (i + 1)) here)

pub letters_found : (t : List ℕ) (i d : ℕ) → i < length t → d ≡ depth (take i t) → (is_letter (get_or t i 0) && eqb d 0) ≡ true → letters_from t i ≡ i ∷ letters_from t (i + 1)
letters_found t i d h g e =
    let here = ap (λ d. is_letter (get_or t i 0) && eqb d 0) (sym g) ∙ e in
    letters_more t i h ∙ cond-true (is_letter (get_or t i 0) && eqb (depth (take i t)) 0) (i ∷ letters_from t (i + 1)) (letters_from t (i + 1)) here

pub ruleset letters = (depth_take, letters_more, letters_end, letters_found)

-- A letter is no brace, so the depth stays.
letter_flat : (b : ℕ) → is_letter b ≡ true → depth_after 0 b ≡ 0
letter_flat b h = by_braces (cases_Bool (eqb b 123)) (cases_Bool (eqb b 125))
  where
    by_braces : (eqb b 123 ≡ true) ⊎ (eqb b 123 ≡ false) → (eqb b 125 ≡ true) ⊎ (eqb b 125 ≡ false) → depth_after 0 b ≡ 0
    by_braces (inl e) _ = absurd (true≢false (sym h ∙ ap is_letter (eqb-true b 123 e)))
    by_braces (inr e) (inl f) = absurd (true≢false (sym h ∙ ap is_letter (eqb-true b 125 f)))
    by_braces (inr e) (inr f) = ap (λ (x : Bool). cond {A = ℕ} x 1 (cond {A = ℕ} (eqb b 125) 0 0)) e ∙ ap (λ (x : Bool). cond {A = ℕ} x 0 0) f

pub letter_behind : (t : List ℕ) (i : ℕ) → IsLetterPlace t i → depth (take (i + 1) t) ≡ 0
letter_behind t i h = depth_take t i h.within ∙ ap (λ d. depth_after d (get_or t i 0)) h.flat ∙ letter_flat (get_or t i 0) h.letter

pub letter_here : (t : List ℕ) (i : ℕ) → IsLetterPlace t i → letters_from t i ≡ i ∷ letters_from t (i + 1)
letter_here t i h = letters_more t i h.within ∙ cond-true (is_letter (get_or t i 0) && eqb (depth (take i t)) 0) (i ∷ letters_from t (i + 1)) (letters_from t (i + 1)) (and_from (is_letter (get_or t i 0)) (eqb (depth (take i t)) 0) h.letter (eq-eqb (depth (take i t)) 0 h.flat))

-- What has the same small form as a letter is a letter.
same_letter : (a b : ℕ) → is_letter a ≡ true → to_ascii_lowercase a ≡ to_ascii_lowercase b → is_letter b ≡ true
same_letter a b h e = grind (arith, nat_tests)

pub letter_twice : (t : List ℕ) (i : ℕ) → IsLetterPlace t i → is_doubled_at t i ≡ true → IsLetterPlace t (i + 1)
letter_twice t i h e =
    let letter = same_letter (get_or t i 0) (get_or t (i + 1) 0) h.letter (eqb-true (to_ascii_lowercase (get_or t i 0)) (to_ascii_lowercase (get_or t (i + 1) 0)) e) in
    record {
      within = by_place (cases_lt (i + 1) (length t)) letter;
      letter = letter;
      flat = letter_behind t i h;
    }
  where
    by_place : (i + 1 < length t) ⊎ (length t ≤ i + 1) → is_letter (get_or t (i + 1) 0) ≡ true → i + 1 < length t
    by_place (inl h) e = h
    by_place (inr h) e = absurd (false≢true (sym (ap is_letter (get_or_past t (i + 1) 0 h)) ∙ e))

pub letters_doubled : (t : List ℕ) (i : ℕ) → IsLetterPlace t i → is_doubled_at t i ≡ true → cond (is_doubled_at t i) (drop 1 (letters_from t (i + 1))) (letters_from t (i + 1)) ≡ letters_from t (i + 2)
letters_doubled t i h e =
    let two : i + 1 + 1 ≡ i + 2 = omega arith in
    cond-true (is_doubled_at t i) (drop 1 (letters_from t (i + 1))) (letters_from t (i + 1)) e ∙ ap (drop 1) (letter_here t (i + 1) (letter_twice t i h e)) ∙ ap (letters_from t) two

pub second_fault : (t : List ℕ) (i e : ℕ) (o : Option ℕ) → letters_from t 0 ≡ i ∷ letters_from t (i + 1) → names_part (get_or t i 0) ≡ true → cond (is_doubled_at t i) (drop 1 (letters_from t (i + 1))) (letters_from t (i + 1)) ≡ letters_from t e → o ≡ slice_get (letters_from t e) 0 → o ≡ letter_fault t (letter_places t)
second_fault t i e o f n g h =
    let others = letters_from t (i + 1) in
    h ∙ ap (λ l. slice_get l 0) (sym g) ∙ sym (cond-true (names_part (get_or t i 0)) (slice_get (cond (is_doubled_at t i) (drop 1 others) others) 0) (Some i) n) ∙ ap (letter_fault t) (sym f)
