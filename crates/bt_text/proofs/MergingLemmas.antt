-- How two lists of texts with their places become one.
use Rattle.std.proofs.Common.{◌≡◌, refl, sym, ap, subst, ◌∙◌, ℕ, ◌+◌, ◌<◌, ◌≤◌, eqb, true, false, arith, List, [], ◌∷◌, ◌++◌, if◌then◌else◌, Some, None, inl, inr}
use Rattle.std.specs.Prelude.{nat_lt}
use Rattle.std.proofs.lemmas.Bool.{cases_lt, cond-true, cond-false}
use Rattle.std.proofs.lemmas.Bool.Decides.{nat_tests}
use Rattle.std.proofs.lemmas.List.{append-nil}
use Rattle.std.specs.Option.{option_or}
use Rattle.bt_text.specs.Sparse.{text_at, all_texts, IsRising, filled_from}
use Rattle.bt_text.specs.inner.Merging.{Present, below, above, merged}
use Rattle.bt_text.proofs.RangeLemmas.{Text, range_alike, range_filled}
use Rattle.bt_text.proofs.SparseLemmas.{none_low, none_high, rising_from}

lt_is : (p q : ℕ) → p < q → nat_lt p q ≡ true
lt_is p q lt = grind (arith, nat_tests, lt)

le_is : (p q : ℕ) → q ≤ p → nat_lt p q ≡ false
le_is p q le = grind (arith, nat_tests, le)

below_more : (place p : ℕ) (text : List ℕ) (xs : Present) → p < place → below place ((p, text) ∷ xs) ≡ (p, text) ∷ below place xs
below_more place p text xs lt = cond-true (nat_lt p place) ((p, text) ∷ below place xs) [] (lt_is p place lt)

below_end : (place p : ℕ) (text : List ℕ) (xs : Present) → place ≤ p → below place ((p, text) ∷ xs) ≡ []
below_end place p text xs le = cond-false (nat_lt p place) ((p, text) ∷ below place xs) [] (le_is p place le)

behind_more : (place p : ℕ) (text : List ℕ) (xs : Present) → p < place → above place ((p, text) ∷ xs) ≡ above place xs
behind_more place p text xs lt = cond-true (nat_lt p place) (above place xs) (if eqb p place then xs else (p, text) ∷ xs) (lt_is p place lt)

behind_same : (place p : ℕ) (text : List ℕ) (xs : Present) → p ≡ place → above place ((p, text) ∷ xs) ≡ xs
behind_same place p text xs same =
    cond-false (nat_lt p place) (above place xs) (if eqb p place then xs else (p, text) ∷ xs) (le_is p place (omega (arith, same)))
    ∙ cond-true (eqb p place) xs ((p, text) ∷ xs) (grind (arith, nat_tests, same))

behind_end : (place p : ℕ) (text : List ℕ) (xs : Present) → place < p → above place ((p, text) ∷ xs) ≡ (p, text) ∷ xs
behind_end place p text xs lt =
    cond-false (nat_lt p place) (above place xs) (if eqb p place then xs else (p, text) ∷ xs) (le_is p place (omega (arith, lt)))
    ∙ cond-false (eqb p place) xs ((p, text) ∷ xs) (grind (arith, nat_tests, lt))

rising_below : (xs ys : Present) (a b c place : ℕ) → IsRising a b xs → a ≤ place → IsRising place c ys → place ≤ c → IsRising a c (below place xs ++ ys)
rising_below [] ys a b c place rising le after most = rising_from ys a place c after le
rising_below ((p, text) ∷ xs) ys a b c place rising le after most = elim (cases_lt p place) [
  | inl lt ↦ subst (λ (zs : Present). IsRising a c (zs ++ ys)) (sym (below_more place p text xs lt))
      (rising.0, omega (arith, lt, most), rising_below xs ys (p + 1) b c place rising.2 (omega (arith, lt)) after most)
  | inr ge ↦ subst (λ (zs : Present). IsRising a c (zs ++ ys)) (sym (below_end place p text xs ge)) (rising_from ys a place c after le)
]

rising_behind : (xs : Present) (a b place : ℕ) → IsRising a b xs → IsRising (place + 1) b (above place xs)
rising_behind [] a b place rising = tt
rising_behind ((p, text) ∷ xs) a b place rising = elim (cases_lt p place) [
  | inl lt ↦ subst (IsRising (place + 1) b) (sym (behind_more place p text xs lt)) (rising_behind xs (p + 1) b place rising.2)
  | inr ge ↦ elim (cases_lt place p) [
    | inl gt ↦ subst (IsRising (place + 1) b) (sym (behind_end place p text xs gt)) (omega (arith, gt), rising.1, rising.2)
    | inr le ↦ subst (IsRising (place + 1) b) (sym (behind_same place p text xs (omega (arith, ge, le)))) (rising_from xs (place + 1) (p + 1) b rising.2 (omega (arith, ge)))
  ]
]

pub rising_merged : (xs ys : Present) (a b c : ℕ) → a ≤ c → IsRising a c xs → IsRising a b ys → IsRising a c (merged c xs ys)
rising_merged [] ys a b c le rising others = subst (IsRising a c) (append-nil (below c ys)) (rising_below ys [] a b c c others le tt (omega arith))
rising_merged ((p, text) ∷ xs) ys a b c le rising others =
    rising_below ys ((p, text) ∷ merged c xs (above p ys)) a b c p others rising.0
    (omega arith, rising.1, rising_merged xs (above p ys) (p + 1) b c (omega (arith, rising.1)) rising.2 (rising_behind ys a b p others))
    (omega (arith, rising.1))

below_low : (xs ys : Present) (a b place i : ℕ) → IsRising a b xs → i < place → text_at ys i ≡ None → text_at (below place xs ++ ys) i ≡ text_at xs i
below_low [] ys a b place i rising low none = none
below_low ((p, text) ∷ xs) ys a b place i rising low none = elim (cases_lt p place) [
  | inl lt ↦ ap (λ (zs : Present). text_at (zs ++ ys) i) (below_more place p text xs lt)
      ∙ ap (λ (t : Text). if eqb p i then Some text else t) (below_low xs ys (p + 1) b place i rising.2 low none)
  | inr ge ↦ ap (λ (zs : Present). text_at (zs ++ ys) i) (below_end place p text xs ge) ∙ none
      ∙ sym (none_low ((p, text) ∷ xs) p b i (omega arith, rising.1, rising.2) (omega (arith, ge, low)))
]

below_high : (xs ys : Present) (place i : ℕ) → place ≤ i → text_at (below place xs ++ ys) i ≡ text_at ys i
below_high [] ys place i high = refl
below_high ((p, text) ∷ xs) ys place i high = elim (cases_lt p place) [
  | inl lt ↦ ap (λ (zs : Present). text_at (zs ++ ys) i) (below_more place p text xs lt)
      ∙ cond-false (eqb p i) (Some text) (text_at (below place xs ++ ys) i) (grind (arith, nat_tests, lt, high))
      ∙ below_high xs ys place i high
  | inr ge ↦ ap (λ (zs : Present). text_at (zs ++ ys) i) (below_end place p text xs ge)
]

behind_high : (xs : Present) (place i : ℕ) → place < i → text_at (above place xs) i ≡ text_at xs i
behind_high [] place i high = refl
behind_high ((p, text) ∷ xs) place i high = elim (cases_lt p place) [
  | inl lt ↦ ap (λ (zs : Present). text_at zs i) (behind_more place p text xs lt) ∙ behind_high xs place i high
      ∙ sym (cond-false (eqb p i) (Some text) (text_at xs i) (grind (arith, nat_tests, lt, high)))
  | inr ge ↦ elim (cases_lt place p) [
    | inl gt ↦ ap (λ (zs : Present). text_at zs i) (behind_end place p text xs gt)
    | inr le ↦ ap (λ (zs : Present). text_at zs i) (behind_same place p text xs (omega (arith, ge, le)))
        ∙ sym (cond-false (eqb p i) (Some text) (text_at xs i) (grind (arith, nat_tests, le, high)))
  ]
]

merged_text : (xs ys : Present) (a b c i : ℕ) → a ≤ c → IsRising a c xs → IsRising a b ys → i < c → text_at (merged c xs ys) i ≡ option_or (text_at xs i) (text_at ys i)
merged_text [] ys a b c i most rising others low =
    ap (λ (zs : Present). text_at zs i) (sym (append-nil (below c ys))) ∙ below_low ys [] a b c i others low refl
merged_text ((p, text) ∷ xs) ys a b c i most rising others low =
    let rest = merged c xs (above p ys) in
    let rest_rising : IsRising (p + 1) c rest = rising_merged xs (above p ys) (p + 1) b c (omega (arith, rising.1)) rising.2 (rising_behind ys a b p others) in
    let rest_is : text_at rest i ≡ option_or (text_at xs i) (text_at (above p ys) i) = merged_text xs (above p ys) (p + 1) b c i (omega (arith, rising.1)) rising.2 (rising_behind ys a b p others) low in
    elim (cases_lt i p) [
      | inl lt ↦
          below_low ys ((p, text) ∷ rest) a b p i others lt (none_low ((p, text) ∷ rest) p c i (omega arith, rising.1, rest_rising) lt)
          ∙ ap (λ (t : Text). option_or t (text_at ys i)) (sym (none_low ((p, text) ∷ xs) p c i (omega arith, rising.1, rising.2) lt))
      | inr ge ↦ below_high ys ((p, text) ∷ rest) p i ge ∙ elim (cases_lt p i) [
        | inl gt ↦
            cond-false (eqb p i) (Some text) (text_at rest i) (grind (arith, nat_tests, gt))
            ∙ rest_is ∙ ap (option_or (text_at xs i)) (behind_high ys p i gt)
            ∙ ap (λ (t : Text). option_or t (text_at ys i)) (sym (cond-false (eqb p i) (Some text) (text_at xs i) (grind (arith, nat_tests, gt))))
        | inr le ↦
            let same : eqb p i ≡ true = grind (arith, nat_tests, ge, le) in
            cond-true (eqb p i) (Some text) (text_at rest i) same
            ∙ ap (λ (t : Text). option_or t (text_at ys i)) (sym (cond-true (eqb p i) (Some text) (text_at xs i) same))
      ]
    ]

pub all_merged : (xs ys : Present) (count other : ℕ) → IsRising 0 count xs → IsRising 0 other ys → all_texts count (merged count xs ys) ≡ filled_from (all_texts count xs) (all_texts other ys)
all_merged xs ys count other rising others =
    range_alike (text_at (merged count xs ys)) (λ i. option_or (text_at xs i) (text_at ys i)) 0 count (λ i le lt. merged_text xs ys 0 other count i (omega arith) rising others (omega (arith, lt)))
    ∙ sym (range_filled (text_at xs) (text_at ys) 0 count other (λ i le. none_high ys 0 other i others (omega (arith, le))))
