-- The places of a list, in order.
use Rattle.std.specs.Prelude.{All}
use Rattle.std.specs.List.{range_with_len}
use Rattle.std.proofs.Common.{◌≡◌, refl, sym, ap, ◌∙◌, ℕ, zero, suc, ◌+◌, ◌<◌, List, [], ◌∷◌, ◌++◌, arith, add-one}
use Rattle.std.proofs.lemmas.List.Elements.{All-push, All-nil, All-cons}
use Rattle.bt_run.specs.inner.Course.{IsArranged}

range_suc : (a n : ℕ) → range_with_len a (suc n) ≡ range_with_len a n ++ (a + n) ∷ []
range_suc a zero = ap (λ k. k ∷ []) (omega arith)
range_suc a (suc n) =
    let last : (a + 1) + n ≡ a + suc n = omega arith in
    ap (λ ks. a ∷ ks) (range_suc (a + 1) n ∙ ap (λ k. range_with_len (a + 1) n ++ k ∷ []) last)

-- one place more
pub range_more : (n : ℕ) → range_with_len 0 (n + 1) ≡ range_with_len 0 n ++ n ∷ []
range_more n =
    let same : 0 + n ≡ n = omega arith in
    ap (λ k. range_with_len 0 k) (add-one n) ∙ range_suc 0 n ∙ ap (λ k. range_with_len 0 n ++ k ∷ []) same

pub order_more : (order next : List ℕ) (n : ℕ) → order ≡ range_with_len 0 n → next ≡ order ++ n ∷ [] → next ≡ range_with_len 0 (n + 1)
order_more order next n is more = more ∙ ap (λ ks. ks ++ n ∷ []) is ∙ sym (range_more n)

-- the places of so many are below it
pub range_below : (a n most : ℕ) → a + n ≡ most → All (λ k. k < most) (range_with_len a n)
range_below a zero most h = All-nil (λ k. k < most)
range_below a (suc n) most h = All-cons (λ k. k < most) a (range_with_len (a + 1) n) (omega (arith, h)) (range_below (a + 1) n most (omega (arith, h)))

pub places_below : (n : ℕ) → All (λ k. k < n) (range_with_len 0 n)
places_below n = range_below 0 n n (omega arith)

-- the list's own order
pub arranged_range : (n : ℕ) → IsArranged n (range_with_len 0 n)
arranged_range n = record { below = places_below n; sums = λ f. refl }

pub arranged_none : IsArranged 0 []
arranged_none = record { below = All-nil (λ n. n < 0); sums = λ f. refl }

pub all_more : {X : Type 0} (P : X → Type 0) (these next : List X) (x : X) → next ≡ these ++ x ∷ [] → All P these → P x → All P next
all_more P these next x more all here = rw more (All-push P these x all here)
