-- The order of places stays where one key changes and still fits between its neighbours.
use Rattle.std.specs.Prelude.{sum_by, slice_index_or, All}
use Rattle.std.specs.Ordering.{is_gt, ordering_then, nat_cmp}
use Rattle.std.specs.Cmp.Lexicographic.{slice_cmp}
use Rattle.std.specs.List.{range_with_len}
use Rattle.std.proofs.Common.{◌≡◌, ◌≢◌, refl, sym, ap, ◌∙◌, subst, ◌⊎◌, inl, inr, ℕ, zero, suc, ◌+◌, ◌<◌, ◌≤◌, List, [], ◌∷◌, ◌++◌, take, drop, length, arith}
use Rattle.std.proofs.Math.Seq.{get_or-append_seam}
use Rattle.std.proofs.lemmas.Bool.{cases_eq}
use Rattle.std.proofs.lemmas.Cmp.{upto, tied_itself}
use Rattle.std.proofs.lemmas.List.{drop_more, get_or-drop, get_or-take, length-append, length-drop, length-take-le, take-append-drop}
use Rattle.std.proofs.lemmas.List.Elements.{All-nil, All-cons, All-tail}
use Rattle.std.proofs.lemmas.List.Sums.{sum_by-cons}
use Rattle.bt_run.specs.SortCommand.{sorted}
use Rattle.bt_run.specs.inner.SortOrder.{IsUpTo, KeyFits}
use Rattle.bt_run.specs.inner.Course.{IsArranged}
use Rattle.bt_run.proofs.SortingLemmas.{Rising, SameSums, Upto, one_list, order_total, range_above, sorted_rises, sorted_sum, sum_of_zeros}

-- Places come once

-- how often a place is another
abbrev of_case : {A B : Type 0} → A ⊎ B → ℕ
of_case (inl a) = 1
of_case (inr b) = 0

abbrev once : ℕ → ℕ → ℕ
once n m = of_case (cases_eq m n)

once_more : (n m : ℕ) (c : (m ≡ n) ⊎ (m ≡ n → ⊥)) → of_case c ≤ 1
once_more n m (inl same) = omega arith
once_more n m (inr other) = omega arith

once_same : (n m : ℕ) (c : (m ≡ n) ⊎ (m ≡ n → ⊥)) → m ≡ n → of_case c ≡ 1
once_same n m (inl same) h = refl
once_same n m (inr other) h = absurd (other h)

once_other : (n m : ℕ) (c : (m ≡ n) ⊎ (m ≡ n → ⊥)) → m ≢ n → of_case c ≡ 0
once_other n m (inl same) h = absurd (h same)
once_other n m (inr other) h = refl

once_tells : (n m : ℕ) (c : (m ≡ n) ⊎ (m ≡ n → ⊥)) → of_case c ≡ 0 → m ≢ n
once_tells n m (inl same) h = absurd (omega (arith, h))
once_tells n m (inr other) h = other

zeros_of_sum : (f : ℕ → ℕ) (xs : List ℕ) → sum_by f xs ≡ 0 → All (λ x. f x ≡ 0) xs
zeros_of_sum f [] h = All-nil (λ x. f x ≡ 0)
zeros_of_sum f (x ∷ xs) h =
    let first : f x ≡ 0 = omega (arith, h, sum_by-cons f x xs) in
    let rest : sum_by f xs ≡ 0 = omega (arith, h, sum_by-cons f x xs) in
    All-cons (λ y. f y ≡ 0) x xs first (zeros_of_sum f xs rest)

all_so : (P Q : ℕ → Type 0) (xs : List ℕ) → ((x : ℕ) → P x → Q x) → All P xs → All Q xs
all_so P Q xs h all = λ i d lt. h (slice_index_or xs i d) (all i d lt)

none_once : (n : ℕ) (xs : List ℕ) → sum_by (once n) xs ≡ 0 → All (λ m. m ≢ n) xs
none_once n xs h =
    all_so (λ m. once n m ≡ 0) (λ m. m ≢ n) xs (λ m. once_tells n m (cases_eq m n)) (zeros_of_sum (once n) xs h)

none_above : (n a count : ℕ) → n < a → sum_by (once n) (range_with_len a count) ≡ 0
none_above n a count lt =
    sum_of_zeros (once n) (range_with_len a count)
    (all_so (λ m. n < m) (λ m. once n m ≡ 0) (range_with_len a count) (λ m above. once_other n m (cases_eq m n) (λ same. omega (arith, same, above))) (range_above n a count lt))

range_once : (n a count : ℕ) → sum_by (once n) (range_with_len a count) ≤ 1
range_once n a zero = omega arith
range_once n a (suc count) =
    let rest = range_with_len (a + 1) count in
    elim (cases_eq a n) [
      | inl same ↦ omega (arith, sum_by-cons (once n) a rest, once_more n a (cases_eq a n), none_above n (a + 1) count (omega (arith, same)))
      | inr other ↦ omega (arith, sum_by-cons (once n) a rest, once_other n a (cases_eq a n) other, range_once n (a + 1) count)
    ]

-- the places of a list are different
abbrev pub AreApart : List ℕ → Type 0
AreApart [] = Unit {0}
AreApart (m ∷ ms) = All (λ k. k ≢ m) ms × AreApart ms

apart_once : (xs : List ℕ) → ((n : ℕ) → sum_by (once n) xs ≤ 1) → AreApart xs
apart_once [] h = tt
apart_once (x ∷ xs) h =
    let one = once_same x x (cases_eq x x) refl in
    let rest : sum_by (once x) xs ≡ 0 = omega (arith, h x, sum_by-cons (once x) x xs, one) in
    (none_once x xs rest, apart_once xs (λ n. omega (arith, h n, sum_by-cons (once n) x xs)))

pub arranged_apart : (count : ℕ) (order : List ℕ) → IsArranged count order → AreApart order
arranged_apart count order h = apart_once order (λ n. omega (arith, h.sums (once n), range_once n 0 count))

-- One key changes

sum_with : (f : ℕ → ℕ) (n : ℕ) (front back : List ℕ) → sum_by f (front ++ n ∷ back) ≡ f n + sum_by f (front ++ back)
sum_with f n [] back = sum_by-cons f n back
sum_with f n (x ∷ xs) back = omega (arith, sum_by-cons f x (xs ++ n ∷ back), sum_by-cons f x (xs ++ back), sum_with f n xs back)

-- a place of an order isn't among the others
others_apart : (n count : ℕ) (front back : List ℕ) → SameSums (front ++ n ∷ back) (range_with_len 0 count) → All (λ m. m ≢ n) (front ++ back)
others_apart n count front back sums =
    let one = once_same n n (cases_eq n n) refl in
    let none : sum_by (once n) (front ++ back) ≡ 0 = omega (arith, sums (once n), range_once n 0 count, sum_with (once n) n front back, one) in
    none_once n (front ++ back) none

all_without : (P : ℕ → Type 0) (n : ℕ) (front back : List ℕ) → All P (front ++ n ∷ back) → All P (front ++ back)
all_without P n [] back h = All-tail P n back h
all_without P n (x ∷ xs) back h = All-cons P x (xs ++ back) (h 0 x (omega arith)) (all_without P n xs back (All-tail P x (xs ++ n ∷ back) h))

all_with : (P : ℕ → Type 0) (n : ℕ) (front back : List ℕ) → P n → All P (front ++ back) → All P (front ++ n ∷ back)
all_with P n [] back own h = All-cons P n back own h
all_with P n (x ∷ xs) back own h = All-cons P x (xs ++ n ∷ back) (h 0 x (omega arith)) (all_with P n xs back own (All-tail P x (xs ++ back) h))

all_front : (P : ℕ → Type 0) (front back : List ℕ) → All P (front ++ back) → All P front
all_front P [] back h = All-nil P
all_front P (x ∷ xs) back h = All-cons P x xs (h 0 x (omega arith)) (all_front P xs back (All-tail P x (xs ++ back) h))

rises_without : (key : ℕ → List ℕ) (n : ℕ) (front back : List ℕ) → Rising key (front ++ n ∷ back) → Rising key (front ++ back)
rises_without key n [] back h = h.1
rises_without key n (x ∷ xs) back h = (all_without (Upto key x) n xs back h.0, rises_without key n xs back h.1)

rises_with : (key : ℕ → List ℕ) (n : ℕ) (front back : List ℕ) → All (λ m. Upto key m n) front → All (Upto key n) back → Rising key (front ++ back) → Rising key (front ++ n ∷ back)
rises_with key n [] back upto beyond h = (beyond, h)
rises_with key n (x ∷ xs) back upto beyond h =
    (all_with (Upto key x) n xs back (upto 0 x (omega arith)) h.0, rises_with key n xs back (All-tail (λ m. Upto key m n) x xs upto) beyond h.1)

rises_front : (key : ℕ → List ℕ) (front back : List ℕ) → Rising key (front ++ back) → Rising key front
rises_front key [] back h = tt
rises_front key (x ∷ xs) back h = (all_front (Upto key x) xs back h.0, rises_front key xs back h.1)

rises_back : (key : ℕ → List ℕ) (front back : List ℕ) → Rising key (front ++ back) → Rising key back
rises_back key [] back h = h
rises_back key (x ∷ xs) back h = rises_back key xs back h.1

upto_same : (was key : ℕ → List ℕ) (x : ℕ) (ms : List ℕ) → was x ≡ key x → All (λ m. was m ≡ key m) ms → All (Upto was x) ms → All (Upto key x) ms
upto_same was key x ms is same h = λ i d lt.
    let m = slice_index_or ms i d in
    ap (λ (k : List ℕ). is_gt (ordering_then (slice_cmp nat_cmp k (key m)) (nat_cmp x m))) (sym is)
    ∙ ap (λ (k : List ℕ). is_gt (ordering_then (slice_cmp nat_cmp (was x) k) (nat_cmp x m))) (sym (same i d lt))
    ∙ h i d lt

rises_same : (was key : ℕ → List ℕ) (ms : List ℕ) → All (λ m. was m ≡ key m) ms → Rising was ms → Rising key ms
rises_same was key [] same h = tt
rises_same was key (x ∷ xs) same h =
    let others = All-tail (λ k. was k ≡ key k) x xs same in
    (upto_same was key x xs (same 0 x (omega arith)) others h.0, rises_same was key xs others h.1)

-- the last of rising places decides for all of them, and the first of them
all_upto : (key : ℕ → List ℕ) (n : ℕ) (xs : List ℕ) → Rising key xs → ((ms : List ℕ) (m : ℕ) → xs ≡ ms ++ m ∷ [] → Upto key m n) → All (λ m. Upto key m n) xs
all_upto key n [] rises last = All-nil (λ m. Upto key m n)
all_upto key n (x ∷ []) rises last = All-cons (λ m. Upto key m n) x [] (last [] x refl) (All-nil (λ m. Upto key m n))
all_upto key n (x ∷ y ∷ ys) rises last =
    let rest = all_upto key n (y ∷ ys) rises.1 (λ ms m is. last (x ∷ ms) m (ap (λ (zs : List ℕ). x ∷ zs) is)) in
    All-cons (λ m. Upto key m n) x (y ∷ ys) (upto (order_total key) x y n (rises.0 0 y (omega arith)) (rest 0 y (omega arith))) rest

all_beyond : (key : ℕ → List ℕ) (n : ℕ) (xs : List ℕ) → Rising key xs → ((m : ℕ) (ms : List ℕ) → xs ≡ m ∷ ms → Upto key n m) → All (Upto key n) xs
all_beyond key n [] rises first = All-nil (Upto key n)
all_beyond key n (x ∷ xs) rises first =
    All-cons (Upto key n) x xs (first x xs refl) (λ i d lt. upto (order_total key) n x (slice_index_or xs i d) (first x xs refl) (rises.0 i d lt))

order_between : (was key : ℕ → List ℕ) (count n : ℕ) (front back : List ℕ) → sorted was (range_with_len 0 count) ≡ front ++ n ∷ back → ((m : ℕ) → m ≢ n → was m ≡ key m) →
    ((ms : List ℕ) (m : ℕ) → front ≡ ms ++ m ∷ [] → Upto key m n) → ((m : ℕ) (ms : List ℕ) → back ≡ m ∷ ms → Upto key n m) →
    sorted key (range_with_len 0 count) ≡ front ++ n ∷ back
order_between was key count n front back is same last first =
    let range = range_with_len 0 count in
    let sums : SameSums (front ++ n ∷ back) range = λ f. ap (sum_by f) (sym is) ∙ sorted_sum was f range in
    let keys : All (λ m. was m ≡ key m) (front ++ back) = all_so (λ m. m ≢ n) (λ m. was m ≡ key m) (front ++ back) same (others_apart n count front back sums) in
    let rises = rises_same was key (front ++ back) keys (rises_without was n front back (subst (Rising was) is (sorted_rises was 0 count))) in
    let whole = rises_with key n front back (all_upto key n front (rises_front key front back rises) last) (all_beyond key n back (rises_back key front back rises) first) rises in
    one_list key (sorted key range) (front ++ n ∷ back) (sorted_rises key 0 count) whole (λ f. sorted_sum key f range ∙ sym (sums f))

-- The same by the place's index in the order. The keys that the new key is compared with are the old ones.

upto_itself : (key : ℕ → List ℕ) (n : ℕ) → Upto key n n
upto_itself key n = ap is_gt (tied_itself (order_total key) n)

behind_still : (was key : ℕ → List ℕ) (n m k : ℕ) → ((z : ℕ) → z ≢ n → was z ≡ key z) → k ≡ m → IsUpTo (was k) k (key n) n → Upto key m n
behind_still was key n m k same at h = elim (cases_eq m n) [
  | inl is ↦ subst (λ z. Upto key z n) (sym is) (upto_itself key n)
  | inr other ↦
      ap (λ (a : List ℕ). is_gt (ordering_then (slice_cmp nat_cmp a (key n)) (nat_cmp m n))) (sym (same m other))
      ∙ ap (λ z. is_gt (ordering_then (slice_cmp nat_cmp (was z) (key n)) (nat_cmp z n))) (sym at)
      ∙ h
]

before_still : (was key : ℕ → List ℕ) (n m k : ℕ) → ((z : ℕ) → z ≢ n → was z ≡ key z) → k ≡ m → IsUpTo (key n) n (was k) k → Upto key n m
before_still was key n m k same at h = elim (cases_eq m n) [
  | inl is ↦ subst (λ z. Upto key n z) (sym is) (upto_itself key n)
  | inr other ↦
      ap (λ (a : List ℕ). is_gt (ordering_then (slice_cmp nat_cmp (key n) a) (nat_cmp n m))) (sym (same m other))
      ∙ ap (λ z. is_gt (ordering_then (slice_cmp nat_cmp (key n) (was z)) (nat_cmp n z))) (sym at)
      ∙ h
]

pub order_stays : (was key : ℕ → List ℕ) (count : ℕ) (order : List ℕ) (i : ℕ) → sorted was (range_with_len 0 count) ≡ order → i < length order → ((m : ℕ) → m ≢ slice_index_or order i 0 → was m ≡ key m) → KeyFits was order i (key (slice_index_or order i 0)) → sorted key (range_with_len 0 count) ≡ order
order_stays was key count order i is lt same fits =
    let n = slice_index_or order i 0 in
    let split : order ≡ take i order ++ n ∷ drop (i + 1) order =
    sym (take-append-drop i order) ∙ ap (λ (ds : List ℕ). take i order ++ ds) (drop_more order i 0 lt)
    in
    let last : (ms : List ℕ) (m : ℕ) → take i order ≡ ms ++ m ∷ [] → Upto key m n = λ ms m ends.
    let count : length ms + 1 ≡ i = omega (arith, length-append ms (m ∷ []), ap length ends, length-take-le i order (omega (arith, lt))) in
    let at : slice_index_or order (length ms) 0 ≡ m =
    sym (get_or-take i order (length ms) 0 (omega (arith, count))) ∙ ap (λ (xs : List ℕ). slice_index_or xs (length ms) 0) ends ∙ get_or-append_seam ms m [] 0
    in
    behind_still was key n m (slice_index_or order (length ms) 0) same at (fits.behind (length ms) count)
    in
    let first : (m : ℕ) (ms : List ℕ) → drop (i + 1) order ≡ m ∷ ms → Upto key n m = λ m ms begins.
    let more : i + 1 < length order = omega (arith, ap length begins, length-drop (i + 1) order) in
    let here : i + 1 + 0 ≡ i + 1 = omega arith in
    let at : slice_index_or order (i + 1) 0 ≡ m =
    ap (λ z. slice_index_or order z 0) (sym here) ∙ sym (get_or-drop (i + 1) order 0 0) ∙ ap (λ (xs : List ℕ). slice_index_or xs 0 0) begins
    in
    before_still was key n m (slice_index_or order (i + 1) 0) same at (fits.before more)
    in
    order_between was key count n (take i order) (drop (i + 1) order) (is ∙ split) same last first ∙ sym split
