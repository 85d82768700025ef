-- A sorted permutation of different places is one list.
use Rattle.std.specs.Prelude.{sum_by, slice_index_or, All, if◌then◌else◌}
use Rattle.std.specs.Ordering.{is_lt, is_gt, is_le, ordering_reverse, ordering_then, nat_cmp}
use Rattle.std.specs.Cmp.{IsTotalOrder}
use Rattle.std.specs.Cmp.Lexicographic.{slice_cmp}
use Rattle.std.specs.List.{range_with_len}
use Rattle.std.specs.List.Sorted.{IsPermutation, IsSorted}
use Rattle.std.proofs.Common.{Ordering, Less, Equal, Greater, ◌≡◌, refl, sym, ap, ◌∙◌, ℕ, zero, suc, ◌+◌, ◌<◌, ◌≤◌, Bool, true, false, cond, List, [], ◌∷◌, map, length, arith}
use Rattle.std.proofs.lemmas.Cmp.{ranked, upto, tied_itself, nat_cmp_total, nat_list_cmp_total, on_total, then_total}
use Rattle.std.proofs.lemmas.List.{get_or-map, length-map}
use Rattle.std.proofs.lemmas.List.Elements.{All-nil, All-cons, All-tail}
use Rattle.std.proofs.lemmas.List.MinMax.{ranks_by}
use Rattle.std.proofs.lemmas.List.Sorted.{sorted_far, IsPermutation-map, All-permutation, sum_by-IsPermutation}
use Rattle.std.proofs.lemmas.List.Sums.{sum_by-cons}
use Rattle.std.proofs.lemmas.Bool.Decides.{nat_tests}
use Rattle.bt_run.specs.SortCommand.{put_among, sorted}
use Rattle.bt_run.specs.inner.Cases.{is_upto}
use Rattle.bt_run.specs.inner.Course.{IsArranged}
use Rattle.bt_run.proofs.OrderLemmas.{places_below}

-- The order of places: by their keys, and by themselves where those are equal.

abbrev order : (ℕ → List ℕ) → ℕ → ℕ → Ordering
order key m n = ordering_then (slice_cmp nat_cmp (key m) (key n)) (nat_cmp m n)

pub order_total : (key : ℕ → List ℕ) → IsTotalOrder (order key)
order_total key = then_total (on_total key nat_list_cmp_total) nat_cmp_total

-- the first doesn't stand after the second
abbrev pub Upto : (ℕ → List ℕ) → ℕ → ℕ → Type 0
Upto key m n = is_gt (order key m n) ≡ false

-- each place doesn't stand after those that follow it
abbrev pub Rising : (ℕ → List ℕ) → List ℕ → Type 0
Rising key [] = Unit {0}
Rising key (m ∷ ms) = All (Upto key m) ms × Rising key ms

is_gt-reverse : (o : Ordering) → is_gt (ordering_reverse o) ≡ is_lt o
is_gt-reverse Less = refl
is_gt-reverse Equal = refl
is_gt-reverse Greater = refl

-- two results, of which the first is that of the second turned round
turned : (o back : Ordering) → o ≡ ordering_reverse back → is_lt back ≡ false → is_gt o ≡ false
turned o back e h = ap is_gt e ∙ is_gt-reverse back ∙ h

-- A sorted vector

-- the same order on what has a key and a place
abbrev order_by : {X : Type 0} → (X → List ℕ) → (X → ℕ) → X → X → Ordering
order_by k f x y = ordering_then (slice_cmp nat_cmp (k x) (k y)) (nat_cmp (f x) (f y))

order_by_total : {X : Type 0} (k : X → List ℕ) (f : X → ℕ) → IsTotalOrder (order_by k f)
order_by_total k f = then_total (on_total k nat_list_cmp_total) (on_total f nat_cmp_total)

-- an element doesn't stand after one that follows it
named_upto : (key : ℕ → List ℕ) (a b : List ℕ) (m n : ℕ) → a ≡ key m → b ≡ key n → is_lt (ordering_then (slice_cmp nat_cmp b a) (nat_cmp n m)) ≡ false → Upto key m n
named_upto key a b m n am bn h =
    let e : is_lt (order key n m) ≡ false = ap (λ x. is_lt (ordering_then (slice_cmp nat_cmp x (key m)) (nat_cmp n m))) (sym bn) ∙ ap (λ x. is_lt (ordering_then (slice_cmp nat_cmp b x) (nat_cmp n m))) (sym am) ∙ h in
    turned (order key m n) (order key n m) ((order_total key).antisymm m n) e

-- the places of a sorted list rise
abbrev Far : {X : Type 0} → (X → List ℕ) → (X → ℕ) → List X → Type 0
Far {X} k f xs = (i j : ℕ) (d : X) → i ≤ j → j < length xs → is_lt (order_by k f (slice_index_or xs j d) (slice_index_or xs i d)) ≡ false

places_rise : {X : Type 0} (k : X → List ℕ) (f : X → ℕ) (key : ℕ → List ℕ) (xs : List X) → Far k f xs → All (λ x. k x ≡ key (f x)) xs → Rising key (map f xs)
places_rise k f key [] far named = tt
places_rise {X} k f key (x ∷ xs) far named =
    let first : All (Upto key (f x)) (map f xs) = λ i d h.
    let h' : i < length xs = omega (arith, h, length-map xs f) in
    let y : X = slice_index_or xs i x in
    let at_y : k y ≡ key (f y) = named (suc i) x (omega (arith, h')) in
    let up : Upto key (f x) (f y) = named_upto key (k x) (k y) (f x) (f y) (named 0 x (omega arith)) at_y (far 0 (suc i) x (omega arith) (omega (arith, h'))) in
    let P : ℕ → Type 0 = λ n. Upto key (f x) n in
    rw (get_or-map f xs i x d h') up
    in
    (first, places_rise k f key xs (λ i j d le h. far (suc i) (suc j) d (omega (arith, le)) (omega (arith, h))) (All-tail (λ z. k z ≡ key (f z)) x xs named))

-- One list

-- the sum of anything over both is the same
abbrev pub SameSums : List ℕ → List ℕ → Type 0
SameSums xs ys = (f : ℕ → ℕ) → sum_by f xs ≡ sum_by f ys

cond_zero : (b : Bool) → ◌≡◌ {A = ℕ} (cond b 1 0) 0 → b ≡ false
cond_zero true h = absurd (omega (arith, h))
cond_zero false h = refl

pub sum_of_zeros : (f : ℕ → ℕ) (xs : List ℕ) → All (λ x. f x ≡ 0) xs → sum_by f xs ≡ 0
sum_of_zeros f [] all = refl
sum_of_zeros f (x ∷ xs) all = omega (arith, sum_by-cons f x xs, all 0 x (omega arith), sum_of_zeros f xs (All-tail (λ z. f z ≡ 0) x xs all))

-- the first of one list doesn't stand after the first of the other
first_upto : (key : ℕ → List ℕ) (x y : ℕ) (xs ys : List ℕ) → All (Upto key y) ys → SameSums (x ∷ xs) (y ∷ ys) → Upto key y x
first_upto key x y xs ys rest sums =
    let f : ℕ → ℕ = λ z. cond (is_gt (order key y z)) 1 0 in
    let itself : f y ≡ 0 = ap (λ o. cond (is_gt o) 1 0) (tied_itself (order_total key) y) in
    let others : All (λ z. f z ≡ 0) ys = λ i d h. ap (λ b. cond b 1 0) (rest i d h) in
    let none : sum_by f ys ≡ 0 = sum_of_zeros f ys others in
    let here : f x ≡ 0 = omega (arith, sums f, sum_by-cons f x xs, sum_by-cons f y ys, itself, none) in
    cond_zero (is_gt (order key y x)) here

second_equal : (a b : Ordering) → is_gt (ordering_then a b) ≡ false → is_lt (ordering_then a b) ≡ false → b ≡ Equal
second_equal Less b g l = cc
second_equal Greater b g l = cc
second_equal Equal Less g l = cc
second_equal Equal Equal g l = refl
second_equal Equal Greater g l = cc

one_place : (key : ℕ → List ℕ) (x y : ℕ) → Upto key x y → Upto key y x → x ≡ y
one_place key x y to back =
    let l : is_lt (order key x y) ≡ false = sym (is_gt-reverse (order key x y)) ∙ ap is_gt (sym ((order_total key).antisymm y x)) ∙ back in
    ranked x y Equal (sym (second_equal (slice_cmp nat_cmp (key x) (key y)) (nat_cmp x y) to l))

pub one_list : (key : ℕ → List ℕ) (xs ys : List ℕ) → Rising key xs → Rising key ys → SameSums xs ys → xs ≡ ys
one_list key [] [] a b sums = refl
one_list key [] (y ∷ ys) a b sums = absurd (omega (arith, sums (λ z. 1), sum_by-cons (λ z. 1) y ys))
one_list key (x ∷ xs) [] a b sums = absurd (omega (arith, sums (λ z. 1), sum_by-cons (λ z. 1) x xs))
one_list key (x ∷ xs) (y ∷ ys) a b sums =
    let here : x ≡ y = one_place key x y (first_upto key y x ys xs a.0 (λ f. sym (sums f))) (first_upto key x y xs ys b.0 sums) in
    let rest : xs ≡ ys = one_list key xs ys a.1 b.1 (λ f. omega (arith, sums f, sum_by-cons f x xs, sum_by-cons f y ys, ap f here)) in
    λ j. here j ∷ rest j

-- The definition

put_sum : (key : ℕ → List ℕ) (f : ℕ → ℕ) (n : ℕ) (ms : List ℕ) → sum_by f (put_among key n ms) ≡ f n + sum_by f ms
unfolding put_among
put_sum key f n [] = sum_by-cons f n []
put_sum key f n (m ∷ ms) =
    elim (is_upto (key n) (key m)) as (λ b. sum_by f (if b then n ∷ m ∷ ms else m ∷ put_among key n ms) ≡ f n + sum_by f (m ∷ ms)) [
      | true ↦ sum_by-cons f n (m ∷ ms)
      | false ↦ omega (arith, sum_by-cons f m (put_among key n ms), sum_by-cons f m ms, put_sum key f n ms)
    ]

pub sorted_sum : (key : ℕ → List ℕ) (f : ℕ → ℕ) (ns : List ℕ) → sum_by f (sorted key ns) ≡ sum_by f ns
unfolding sorted
sorted_sum key f [] = refl
sorted_sum key f (n ∷ ns) = omega (arith, put_sum key f n (sorted key ns), sorted_sum key f ns, sum_by-cons f n ns)

put_all : (key : ℕ → List ℕ) (P : ℕ → Type 0) (n : ℕ) (ms : List ℕ) → P n → All P ms → All P (put_among key n ms)
unfolding put_among
put_all key P n [] here all = All-cons P n [] here all
put_all key P n (m ∷ ms) here all =
    elim (is_upto (key n) (key m)) as (λ b. All P (if b then n ∷ m ∷ ms else m ∷ put_among key n ms)) [
      | true ↦ All-cons P n (m ∷ ms) here all
      | false ↦ All-cons P m (put_among key n ms) (all 0 m (omega arith)) (put_all key P n ms here (All-tail P m ms all))
    ]

sorted_all : (key : ℕ → List ℕ) (P : ℕ → Type 0) (ns : List ℕ) → All P ns → All P (sorted key ns)
unfolding sorted
sorted_all key P [] all = all
sorted_all key P (n ∷ ns) all = put_all key P n (sorted key ns) (all 0 n (omega arith)) (sorted_all key P ns (All-tail P n ns all))

pub arranged_sorted : (key : ℕ → List ℕ) (count : ℕ) → IsArranged count (sorted key (range_with_len 0 count))
arranged_sorted key count = record {
  below = sorted_all key (λ n. n < count) (range_with_len 0 count) (places_below count);
  sums = λ f. sorted_sum key f (range_with_len 0 count);
}

-- a place before a later one whose key isn't smaller
nat_less : (n m : ℕ) → n < m → is_gt (nat_cmp n m) ≡ false
nat_less n m h = grind (arith, nat_tests, h)

in_front : (a : Ordering) (n m : ℕ) → is_le a ≡ true → n < m → is_gt (ordering_then a (nat_cmp n m)) ≡ false
in_front Less n m le h = refl
in_front Equal n m le h = nat_less n m h
in_front Greater n m le h = cc

-- a place after one whose key is smaller
behind : (a back o : Ordering) → back ≡ ordering_reverse a → is_le a ≡ false → is_gt (ordering_then back o) ≡ false
behind Less back o e le = cc
behind Equal back o e le = cc
behind Greater back o e le = ap (λ b. is_gt (ordering_then b o)) e

put_rises_by : (key : ℕ → List ℕ) (n m : ℕ) (ms : List ℕ) (b : Bool) → is_upto (key n) (key m) ≡ b → All (λ k. n < k) (m ∷ ms) → Rising key (m ∷ ms) → Rising key (put_among key n ms) → Rising key (if b then n ∷ m ∷ ms else m ∷ put_among key n ms)
put_rises_by key n m ms true e above rising rest =
    let first : Upto key n m = in_front (slice_cmp nat_cmp (key n) (key m)) n m e (above 0 m (omega arith)) in
    (All-cons (Upto key n) m ms first (λ i d h. upto (order_total key) n m (slice_index_or ms i d) first (rising.0 i d h)), rising)
put_rises_by key n m ms false e above rising rest =
    let first : Upto key m n = behind (slice_cmp nat_cmp (key n) (key m)) (slice_cmp nat_cmp (key m) (key n)) (nat_cmp m n) (nat_list_cmp_total.antisymm (key m) (key n)) e in
    (put_all key (Upto key m) n ms first rising.0, rest)

put_rises : (key : ℕ → List ℕ) (n : ℕ) (ms : List ℕ) → All (λ m. n < m) ms → Rising key ms → Rising key (put_among key n ms)
unfolding put_among
put_rises key n [] above rising = (All-nil (Upto key n), tt)
put_rises key n (m ∷ ms) above rising =
    put_rises_by key n m ms (is_upto (key n) (key m)) refl above rising (put_rises key n ms (All-tail (λ k. n < k) m ms above) rising.1)

pub range_above : (a b count : ℕ) → a < b → All (λ m. a < m) (range_with_len b count)
range_above a b zero h = All-nil (λ m. a < m)
range_above a b (suc count) h = All-cons (λ m. a < m) b (range_with_len (b + 1) count) h (range_above a (b + 1) count (omega (arith, h)))

pub sorted_rises : (key : ℕ → List ℕ) (a count : ℕ) → Rising key (sorted key (range_with_len a count))
unfolding sorted
sorted_rises key a zero = tt
sorted_rises key a (suc count) =
    put_rises key a (sorted key (range_with_len (a + 1) count)) (sorted_all key (λ m. a < m) (range_with_len (a + 1) count) (range_above a (a + 1) count (omega arith))) (sorted_rises key (a + 1) count)

-- Both

-- what has a key and a place, sorted by the key and then by the place, has its places in the order of the definition
pub sorted_order : {X : Type 0} (k : X → List ℕ) (f : X → ℕ) (key : ℕ → List ℕ) (count : ℕ) (xs ys : List X) → IsArranged count (map f xs) → All (λ x. k x ≡ key (f x)) xs → IsPermutation xs ys → IsSorted (order_by k f) ys → map f ys ≡ sorted key (range_with_len 0 count)
sorted_order k f key count xs ys places named moved up =
    let named_now = All-permutation (λ x. k x ≡ key (f x)) xs ys moved named in
    let far : Far k f ys = sorted_far (λ x y. is_lt (order_by k f x y)) (ranks_by (order_by_total k f) (λ x. x)) ys up in
    one_list key (map f ys) (sorted key (range_with_len 0 count)) (places_rise k f key ys far named_now) (sorted_rises key 0 count)
    (λ g. sum_by-IsPermutation g (map f xs) (map f ys) (IsPermutation-map f xs ys moved) ∙ places.sums g ∙ sym (sorted_sum key g (range_with_len 0 count)))
