-- An order of the places of some entries, made one of more or fewer.
use Rattle.std.specs.Prelude.{All, sum_by, filter, nat_lt}
use Rattle.std.specs.List.{range_with_len}
use Rattle.std.proofs.Common.{◌≡◌, refl, sym, ap, ◌∙◌, ℕ, zero, suc, ◌+◌, ◌-◌, ◌<◌, Bool, true, false, cond, List, [], ◌∷◌, ◌++◌, arith, add-one}
use Rattle.std.proofs.lemmas.Bool.{ltb-true, ltb-false}
use Rattle.std.proofs.lemmas.List.Elements.{All-append, All-nil, All-cons}
use Rattle.std.proofs.lemmas.List.Sums.{sum_by-append, sum_by-cons, sum_by_push}
use Rattle.bt_run.specs.inner.Course.{IsArranged}
use Rattle.bt_run.proofs.OrderLemmas.{range_below, range_more}

-- what a function gives below a count
abbrev masked : ℕ → (ℕ → ℕ) → ℕ → ℕ
masked count f n = cond (nat_lt n count) (f n) 0

module _ (count : ℕ) where
  abbrev within : List ℕ → List ℕ
  within ns = filter (λ n. nat_lt n count) ns

  all_within : (ns : List ℕ) → All (λ n. n < count) (within ns)
  all_within [] = All-nil (λ n. n < count)
  all_within (n ∷ ns) = put (all_within ns) (nat_lt n count) refl
    where
      put : All (λ n. n < count) (within ns) → (b : Bool) → nat_lt n count ≡ b → All (λ n. n < count) (cond b (n ∷ within ns) (within ns))
      put h true e = All-cons (λ n. n < count) n (within ns) (ltb-true n count e) h
      put h false e = h

  module _ (f : ℕ → ℕ) where
    sums_within : (ns : List ℕ) → sum_by f (within ns) ≡ sum_by (masked count f) ns
    sums_within [] = refl
    sums_within (n ∷ ns) = put (sums_within ns) (nat_lt n count) ∙ sym (sum_by-cons (masked count f) n ns)
      where
        put : sum_by f (within ns) ≡ sum_by (masked count f) ns → (b : Bool) → sum_by f (cond b (n ∷ within ns) (within ns)) ≡ cond b (f n) 0 + sum_by (masked count f) ns
        put h true = sum_by-cons f n (within ns) ∙ ap (λ s. f n + s) h
        put h false = omega (arith, h)

    -- what the places before one give below the count, and all that are from there on
    abbrev sums : ℕ → ℕ
    sums n = sum_by (masked count f) (range_with_len 0 n) + sum_by f (range_with_len n (count - n))

    sums_more : (n : ℕ) → sums (suc n) ≡ sums n
    sums_more n = put (nat_lt n count) refl
      where
        last : sum_by (masked count f) (range_with_len 0 (suc n)) ≡ sum_by (masked count f) (range_with_len 0 n) + masked count f n
        last = ap (λ k. sum_by (masked count f) (range_with_len 0 k)) (sym (add-one n)) ∙ ap (sum_by (masked count f)) (range_more n) ∙ sum_by_push (masked count f) (range_with_len 0 n) n

        put : (b : Bool) → nat_lt n count ≡ b → sums (suc n) ≡ sums n
        put true e =
            let lt = ltb-true n count e in
            let split : count - n ≡ suc (count - suc n) = omega (arith, lt) in
            let first : sum_by f (range_with_len n (count - n)) ≡ f n + sum_by f (range_with_len (suc n) (count - suc n)) =
            ap (λ k. sum_by f (range_with_len n k)) split ∙ sum_by-cons f n (range_with_len (n + 1) (count - suc n)) ∙ ap (λ k. f n + sum_by f (range_with_len k (count - suc n))) (add-one n) in
            let mask : masked count f n ≡ f n = ap (λ b. cond b (f n) 0) e in
            omega (arith, last, first, mask)
        put false e =
            let ge = ltb-false n count e in
            let none : sum_by f (range_with_len n (count - n)) ≡ 0 = ap (λ k. sum_by f (range_with_len n k)) (let z : count - n ≡ 0 = omega (arith, ge) in z) in
            let none_more : sum_by f (range_with_len (suc n) (count - suc n)) ≡ 0 = ap (λ k. sum_by f (range_with_len (suc n) k)) (let z : count - suc n ≡ 0 = omega (arith, ge) in z) in
            let mask : masked count f n ≡ 0 = ap (λ b. cond b (f n) 0) e in
            omega (arith, last, none, none_more, mask)

    sums_all : (n : ℕ) → sums n ≡ sum_by f (range_with_len 0 count)
    sums_all zero =
        let same : count - 0 ≡ count = omega arith in
        let all : sum_by f (range_with_len 0 (count - 0)) ≡ sum_by f (range_with_len 0 count) = ap (λ k. sum_by f (range_with_len 0 k)) same in
        omega (arith, all)
    sums_all (suc n) = sums_more n ∙ sums_all n

-- The places below a count, and those that are new, are in some order.
pub arranged_again : (n count : ℕ) (order : List ℕ) → IsArranged n order → IsArranged count (filter (λ k. nat_lt k count) order ++ range_with_len n (count - n))
arranged_again n count order h = record {
  below = All-append (λ k. k < count) (within count order) (range_with_len n (count - n)) (all_within count order) new_below;
  sums = λ f. sum_by-append f (within count order) (range_with_len n (count - n)) ∙ ap (λ s. s + sum_by f (range_with_len n (count - n))) (sums_within count f order ∙ h.sums (masked count f)) ∙ sums_all count f n;
}
  where
    new_below : All (λ k. k < count) (range_with_len n (count - n))
    new_below = put (count - n) refl
      where
        put : (m : ℕ) → count - n ≡ m → All (λ k. k < count) (range_with_len n m)
        put zero e = All-nil (λ k. k < count)
        put (suc m) e = range_below n (suc m) count (omega (arith, e))
