-- Texts with their places: how one is found, put and taken away.
use Rattle.std.proofs.Common.{◌≡◌, refl, sym, ap, subst, ◌∙◌, ℕ, zero, suc, ◌+◌, ◌<◌, ◌≤◌, ◌≢◌, eqb, Bool, true, false, arith, List, [], ◌∷◌, map, length, set, drop, get_or, if◌then◌else◌, Some, None, Result, Ok, Err, IfOk, IfErr, inl, inr}
use Rattle.std.specs.Prelude.{is_none, is_some, bytes_eq, ◌&&◌, ◌==◌, ◌↔◌}
use Rattle.std.specs.Cmp.Lexicographic.{bytes_decides}
use mathlib.Core.Bool.{false≢true}
use Rattle.std.specs.List.{insert, remove, list_all, range_with_len}
use Rattle.std.specs.List.Sorted.{IsSearchInRange, IsBinarySearchResult, IsNonDecreasingBy}
use Rattle.std.specs.Ordering.{nat_cmp, ordering_index}
use Rattle.std.proofs.lemmas.Cmp.{ranked}
use Rattle.std.proofs.lemmas.List.FromFn.{length-map-range_with_len}
use Rattle.std.proofs.lemmas.List.Sorted.{IsNonDecreasingBy-from_default}
use Rattle.std.proofs.lemmas.Bool.{cases_lt, cond-true, cond-false}
use Rattle.std.proofs.lemmas.Bool.Decides.{nat_tests}
use Rattle.std.proofs.lemmas.List.{drop_more, get_or_default}
use Rattle.bt_text.specs.Sparse.{text_at, all_texts, IsRising}
use Rattle.bt_text.specs.inner.Merging.{Present, place_at, same_text, same_present, IsAt, IsGap, IsInOrder}
use Rattle.bt_text.proofs.RangeLemmas.{Text, range_get, range_get_behind, range_set, range_behind}

-- ---- rising places

pub length_all : (count : ℕ) (xs : Present) → length (all_texts count xs) ≡ count
length_all count xs = length-map-range_with_len (text_at xs) 0 count

pub none_low : (xs : Present) (a c i : ℕ) → IsRising a c xs → i < a → text_at xs i ≡ None
none_low [] a c i rising low = refl
none_low ((p, text) ∷ xs) a c i rising low = grind (arith, nat_tests, none_low xs (p + 1) c i rising.2 (omega (arith, low, rising.0)), low, rising.0)

pub none_high : (xs : Present) (a c i : ℕ) → IsRising a c xs → c ≤ i → text_at xs i ≡ None
none_high [] a c i rising high = refl
none_high ((p, text) ∷ xs) a c i rising high = grind (arith, nat_tests, none_high xs (p + 1) c i rising.2 high, high, rising.1)

place_low : (xs : Present) (a c i : ℕ) → IsRising a c xs → i < length xs → a ≤ place_at xs i
place_low [] a c i rising lt = absurd (omega (arith, lt))
place_low ((p, text) ∷ xs) a c zero rising lt = rising.0
place_low ((p, text) ∷ xs) a c (suc i) rising lt = omega (arith, place_low xs (p + 1) c i rising.2 (omega (arith, lt)), rising.0)

pub in_order : (xs : Present) (a c : ℕ) → IsRising a c xs → IsInOrder xs
in_order [] a c rising i j lt in_range = absurd (omega (arith, in_range))
in_order (x ∷ xs) a c rising i zero lt in_range = absurd (omega (arith, lt))
in_order ((p, text) ∷ xs) a c rising zero (suc j) lt in_range = omega (arith, place_low xs (p + 1) c j rising.2 (omega (arith, in_range)))
in_order ((p, text) ∷ xs) a c rising (suc i) (suc j) lt in_range = in_order xs (p + 1) c rising.2 i j (omega (arith, lt)) (omega (arith, in_range))

pub rising_from : (xs : Present) (a b c : ℕ) → IsRising b c xs → a ≤ b → IsRising a c xs
rising_from [] a b c rising le = tt
rising_from ((p, text) ∷ xs) a b c rising le = (omega (arith, rising.0, le), rising.1, rising.2)

-- ---- a binary search

comparisons_rise : (xs : Present) (place : ℕ) → IsInOrder xs → IsNonDecreasingBy (λ x. ordering_index (nat_cmp x.0 place)) xs
comparisons_rise xs place ordered = IsNonDecreasingBy-from_default (λ x. ordering_index (nat_cmp x.0 place)) xs (0, []) (λ i j le in_range.
    let rise : place_at xs i ≤ place_at xs j = grind (arith, ordered i j, λ (same : i ≡ j). ap (place_at xs) same) in
    grind (arith, nat_tests))

pub searched : (xs : Present) (place : ℕ) → IsInOrder xs → (r : Result ℕ ℕ) → IsSearchInRange r (length xs) → IsBinarySearchResult (λ x. nat_cmp x.0 place) xs r → record { found : IfOk r (IsAt xs place); absent : IfErr r (IsGap xs place) }
searched xs place ordered (Ok i) in_range equal = record { found = record { in_range = in_range; has_place = ranked _ place _ (sym (equal (0, []))) }; absent = tt }
searched xs place ordered (Err i) in_range parted = record {
  found = tt;
  absent = record {
    in_range = in_range;
    smaller_before = λ j lt. ranked _ place _ (sym ((parted (comparisons_rise xs place ordered)).0 j (0, []) (omega arith) lt));
    greater_after = λ j le lt. ranked _ place _ (sym ((parted (comparisons_rise xs place ordered)).1 j (0, []) le lt));
  };
}

-- ---- one place more or less

at_tail : (x : ℕ × List ℕ) (xs : Present) (place i : ℕ) → IsAt (x ∷ xs) place (suc i) → IsAt xs place i
at_tail x xs place i there = record { in_range = omega (arith, there.in_range); has_place = there.has_place }

gap_tail : (x : ℕ × List ℕ) (xs : Present) (place i : ℕ) → IsGap (x ∷ xs) place (suc i) → IsGap xs place i
gap_tail x xs place i gap = record {
  in_range = omega (arith, gap.in_range);
  smaller_before = λ j lt. gap.smaller_before (suc j) (omega (arith, lt));
  greater_after = λ j le lt. gap.greater_after (suc j) (omega (arith, le)) (omega (arith, lt));
}

-- the place of the first isn't that of one after it
first_apart : (p : ℕ) (text : List ℕ) (xs : Present) (c place i : ℕ) → IsRising (p + 1) c xs → IsAt xs place i → p ≢ place
first_apart p text xs c place i rising there same = omega (arith, place_low xs (p + 1) c i rising there.in_range, there.has_place, same)

found_at : (xs : Present) (a c place i : ℕ) → IsRising a c xs → IsAt xs place i → text_at xs place ≡ Some (get_or xs i (0, [])).1
found_at [] a c place i rising there = absurd (omega (arith, there.in_range))
found_at ((p, text) ∷ xs) a c place zero rising there = grind (arith, nat_tests, there.has_place)
found_at ((p, text) ∷ xs) a c place (suc i) rising there = grind (arith, nat_tests, first_apart p text xs c place i rising.2 (at_tail (p, text) xs place i there), found_at xs (p + 1) c place i rising.2 (at_tail (p, text) xs place i there))

none_in_gap : (xs : Present) (place i : ℕ) → IsGap xs place i → text_at xs place ≡ None
none_in_gap [] place i gap = refl
none_in_gap ((p, text) ∷ xs) place zero gap = grind (
  arith,
  nat_tests,
  gap.greater_after 0,
  none_in_gap xs place zero (record {
    in_range = omega arith;
    smaller_before = λ j lt. absurd (omega (arith, lt));
    greater_after = λ j le lt. gap.greater_after (suc j) (omega arith) (omega (arith, lt));
  }),
)
none_in_gap ((p, text) ∷ xs) place (suc i) gap = grind (arith, nat_tests, gap.smaller_before 0 (omega arith), none_in_gap xs place i (gap_tail (p, text) xs place i gap))

-- the texts of all places once that of one has changed
abbrev SetsAt : Present → Present → ℕ → Text → Type 0
SetsAt old new place text = (q : ℕ) → text_at new q ≡ (if eqb place q then text else text_at old q)

set_at : (xs : Present) (a c place i : ℕ) (text : List ℕ) → IsRising a c xs → IsAt xs place i → SetsAt xs (set xs i (place, text)) place (Some text)
set_at [] a c place i text rising there q = absurd (omega (arith, there.in_range))
set_at ((p, was) ∷ xs) a c place zero text rising there q = grind (arith, nat_tests, there.has_place)
set_at ((p, was) ∷ xs) a c place (suc i) text rising there q = grind (arith, nat_tests, first_apart p was xs c place i rising.2 (at_tail (p, was) xs place i there), set_at xs (p + 1) c place i text rising.2 (at_tail (p, was) xs place i there) q)

remove_at : (xs : Present) (a c place i : ℕ) → IsRising a c xs → IsAt xs place i → SetsAt xs (remove xs i) place None
remove_at [] a c place i rising there q = absurd (omega (arith, there.in_range))
remove_at ((p, was) ∷ xs) a c place zero rising there q = grind (arith, nat_tests, there.has_place, none_low xs (p + 1) c p rising.2 (omega arith))
remove_at ((p, was) ∷ xs) a c place (suc i) rising there q = grind (arith, nat_tests, first_apart p was xs c place i rising.2 (at_tail (p, was) xs place i there), remove_at xs (p + 1) c place i rising.2 (at_tail (p, was) xs place i there) q)

insert_at : (xs : Present) (place i : ℕ) (text : List ℕ) → IsGap xs place i → SetsAt xs (insert xs i (place, text)) place (Some text)
insert_at xs place zero text gap q = refl
insert_at [] place (suc i) text gap q = absurd (omega (arith, gap.in_range))
insert_at ((p, was) ∷ xs) place (suc i) text gap q = grind (arith, nat_tests, gap.smaller_before 0 (omega arith), insert_at xs place i text (gap_tail (p, was) xs place i gap) q)

pub rising_set : (xs : Present) (a c place i : ℕ) (text : List ℕ) → IsRising a c xs → IsAt xs place i → IsRising a c (set xs i (place, text))
rising_set [] a c place i text rising there = tt
rising_set ((p, was) ∷ xs) a c place zero text rising there = subst (λ q. (a ≤ q) × (q < c) × IsRising (q + 1) c xs) there.has_place rising
rising_set ((p, was) ∷ xs) a c place (suc i) text rising there = (rising.0, rising.1, rising_set xs (p + 1) c place i text rising.2 (at_tail (p, was) xs place i there))

pub rising_remove : (xs : Present) (a c i : ℕ) → IsRising a c xs → IsRising a c (remove xs i)
rising_remove [] a c zero rising = tt
rising_remove [] a c (suc i) rising = tt
rising_remove ((p, was) ∷ xs) a c zero rising = rising_from xs a (p + 1) c rising.2 (omega (arith, rising.0))
rising_remove ((p, was) ∷ xs) a c (suc i) rising = (rising.0, rising.1, rising_remove xs (p + 1) c i rising.2)

rising_first : (xs : Present) (a c place : ℕ) (text : List ℕ) → IsRising a c xs → a ≤ place → place < c → ((j : ℕ) → j < length xs → place < place_at xs j) → IsRising a c ((place, text) ∷ xs)
rising_first [] a c place text rising le lt after = (le, lt, tt)
rising_first ((p, was) ∷ xs) a c place text rising le lt after = (le, lt, (omega (arith, after 0 (omega arith)), rising.1, rising.2))

pub rising_insert : (xs : Present) (a c place i : ℕ) (text : List ℕ) → IsRising a c xs → a ≤ place → place < c → IsGap xs place i → IsRising a c (insert xs i (place, text))
rising_insert xs a c place zero text rising le lt gap = rising_first xs a c place text rising le lt (λ j in_range. gap.greater_after j (omega arith) in_range)
rising_insert [] a c place (suc i) text rising le lt gap = absurd (omega (arith, gap.in_range))
rising_insert ((p, was) ∷ xs) a c place (suc i) text rising le lt gap =
    (rising.0, rising.1, rising_insert xs (p + 1) c place i text rising.2 (omega (arith, gap.smaller_before 0 (omega arith))) lt (gap_tail (p, was) xs place i gap))

-- ---- in the list of all

all_set : (xs ys : Present) (count place : ℕ) (text : Text) → SetsAt xs ys place text → set (all_texts count xs) place text ≡ all_texts count ys
all_set xs ys count place text sets =
    let here : text_at ys (0 + place) ≡ text = grind (arith, nat_tests, sets place) in
    ap (λ (t : Text). set (all_texts count xs) place t) (sym here)
    ∙ range_set (text_at xs) (text_at ys) 0 count place (λ q apart. grind (arith, nat_tests, sets q, apart))

pub all_set_at : (xs : Present) (count place i : ℕ) (text : List ℕ) → IsRising 0 count xs → IsAt xs place i → set (all_texts count xs) place (Some text) ≡ all_texts count (set xs i (place, text))
all_set_at xs count place i text rising there = all_set xs (set xs i (place, text)) count place (Some text) (set_at xs 0 count place i text rising there)

pub all_remove_at : (xs : Present) (count place i : ℕ) → IsRising 0 count xs → IsAt xs place i → set (all_texts count xs) place None ≡ all_texts count (remove xs i)
all_remove_at xs count place i rising there = all_set xs (remove xs i) count place None (remove_at xs 0 count place i rising there)

pub all_insert : (xs : Present) (count place i : ℕ) (text : List ℕ) → IsGap xs place i → set (all_texts count xs) place (Some text) ≡ all_texts count (insert xs i (place, text))
all_insert xs count place i text gap = all_set xs (insert xs i (place, text)) count place (Some text) (insert_at xs place i text gap)

pub all_behind : (xs : Present) (count place : ℕ) (text : Text) → count ≤ place → set (all_texts count xs) place text ≡ all_texts count xs
all_behind xs count place text le = range_behind (text_at xs) 0 count place text le

pub all_in_gap : (xs : Present) (count place i : ℕ) → IsGap xs place i → set (all_texts count xs) place None ≡ all_texts count xs
all_in_gap xs count place i gap = all_set xs xs count place None (λ q. grind (arith, nat_tests, none_in_gap xs place i gap, λ (same : place ≡ q). ap (text_at xs) same))

get_by : (f : ℕ → Text) (count place : ℕ) → (count ≤ place → f place ≡ None) → get_or (map f (range_with_len 0 count)) place None ≡ f place
get_by f count place behind = elim (cases_lt place count) [
  | inl lt ↦ range_get f 0 count place lt ∙ ap f (omega arith)
  | inr le ↦ range_get_behind f 0 count place le ∙ sym (behind le)
]

pub all_get : (xs : Present) (count place : ℕ) → IsRising 0 count xs → get_or (all_texts count xs) place None ≡ text_at xs place
all_get xs count place rising = get_by (text_at xs) count place (none_high xs 0 count place rising)

pub all_get_at : (xs : Present) (count place i : ℕ) → IsRising 0 count xs → IsAt xs place i → get_or (all_texts count xs) place None ≡ Some (get_or xs i (0, [])).1
all_get_at xs count place i rising there = all_get xs count place rising ∙ found_at xs 0 count place i rising there

pub all_get_gap : (xs : Present) (count place i : ℕ) → IsRising 0 count xs → IsGap xs place i → get_or (all_texts count xs) place None ≡ None
all_get_gap xs count place i rising gap = all_get xs count place rising ∙ none_in_gap xs place i gap

-- ---- none of them

all_none : (f : ℕ → Text) (a n : ℕ) → ((i : ℕ) → f i ≡ None) → list_all is_none (map f (range_with_len a n)) ≡ true
all_none f a zero none = refl
all_none f a (suc n) none = ap (λ (t : Text). is_none t && list_all is_none (map f (range_with_len (a + 1) n))) (none a) ∙ all_none f (a + 1) n none

and_false : (b : Bool) → (b && false) ≡ false
and_false true = refl
and_false false = refl

some_there : (f : ℕ → Text) (a n i : ℕ) (text : List ℕ) → i < n → f (a + i) ≡ Some text → list_all is_none (map f (range_with_len a n)) ≡ false
some_there f a zero i text lt is = absurd (omega (arith, lt))
some_there f a (suc n) zero text lt is = ap (λ (t : Text). is_none t && list_all is_none (map f (range_with_len (a + 1) n))) (ap f (omega arith) ∙ is)
some_there f a (suc n) (suc i) text lt is =
    ap (λ (b : Bool). is_none (f a) && b) (some_there f (a + 1) n i text (omega (arith, lt)) (ap f (omega arith) ∙ is)) ∙ and_false (is_none (f a))

pub none_present : (xs : Present) (count : ℕ) → IsRising 0 count xs → (length xs == 0) ≡ list_all is_none (all_texts count xs)
none_present [] count rising = sym (all_none (text_at []) 0 count (λ i. refl))
none_present ((p, text) ∷ xs) count rising =
    let some : (length ((p, text) ∷ xs) == 0) ≡ false = grind (arith, nat_tests) in
    some ∙ sym (some_there (text_at ((p, text) ∷ xs)) 0 count p text rising.1 (grind (arith, nat_tests)))

-- ---- the same

pub both_more : (texts others : Present) (i : ℕ) (text other : ℕ × List ℕ) → i < length texts → length texts ≡ length others → text ≡ get_or texts i text → other ≡ get_or others i other →
    same_present (drop i texts) (drop i others) ≡ (same_text text other && same_present (drop (i + 1) texts) (drop (i + 1) others))
both_more texts others i text other less long is_text is_other =
    ap (λ xs. same_present xs (drop i others)) (drop_more texts i text less ∙ ap (λ (x : ℕ × List ℕ). x ∷ drop (i + 1) texts) (sym is_text))
    ∙ ap (λ ys. same_present (text ∷ drop (i + 1) texts) ys) (drop_more others i other (omega (arith, less, long)) ∙ ap (λ (y : ℕ × List ℕ). y ∷ drop (i + 1) others) (sym is_other))

pub other_length : (texts others : Present) → length texts ≢ length others → false ≡ same_present texts others
other_length [] [] apart = absurd (apart refl)
other_length [] (y ∷ ys) apart = refl
other_length (x ∷ xs) [] apart = refl
other_length (x ∷ xs) (y ∷ ys) apart = sym (ap (λ (b : Bool). same_text x y && b) (sym (other_length xs ys (λ same. apart (ap suc same)))) ∙ and_false (same_text x y))

pub none_left : (texts others : Present) → length texts ≡ length others → same_present (drop (length texts) texts) (drop (length texts) others) ≡ true
none_left [] [] long = refl
none_left [] (y ∷ ys) long = absurd (omega (arith, long))
none_left (x ∷ xs) [] long = absurd (omega (arith, long))
none_left (x ∷ xs) (y ∷ ys) long = none_left xs ys (omega (arith, long))

-- ---- what the calls say

pub got : (xs : Present) (count place i : ℕ) (x : ℕ × List ℕ) → IsRising 0 count xs → IsAt xs place i → x ≡ get_or xs i x → Some x.1 ≡ get_or (all_texts count xs) place None
got xs count place i x rising there is =
    ap (λ (y : ℕ × List ℕ). Some y.1) (is ∙ get_or_default xs i x (0, []) there.in_range) ∙ sym (all_get_at xs count place i rising there)

-- ---- whether all are the same

abbrev text_or : Text → List ℕ
text_or None = []
text_or (Some text) = text

and_both : (a b : Bool) → (a && b) ≡ true → (a ≡ true) × (b ≡ true)
and_both true true h = (refl, refl)
and_both true false h = absurd (false≢true h)
and_both false b h = absurd (false≢true h)

same_from_test : (xs ys : Present) → same_present xs ys ≡ true → xs ≡ ys
same_from_test [] [] h = refl
same_from_test [] (y ∷ ys) h = absurd (false≢true h)
same_from_test (x ∷ xs) [] h = absurd (false≢true h)
same_from_test (x ∷ xs) (y ∷ ys) h =
    let both = and_both (same_text x y) (same_present xs ys) h in
    let one = and_both (x.0 == y.0) (bytes_eq x.1 y.1) both.0 in
    let place : x.0 ≡ y.0 = grind (arith, nat_tests, one.0) in
    let text : x.1 ≡ y.1 = (bytes_decides x.1 y.1).0 one.1 in
    let here : x ≡ y = ap (λ (p : ℕ). (p, x.1)) place ∙ ap (λ (t : List ℕ). (y.0, t)) text in
    ap (λ (z : ℕ × List ℕ). z ∷ xs) here ∙ ap (λ (zs : Present). y ∷ zs) (same_from_test xs ys both.1)

test_of_same : (xs : Present) → same_present xs xs ≡ true
test_of_same [] = refl
test_of_same (x ∷ xs) =
    let place : (x.0 == x.0) ≡ true = grind (arith, nat_tests) in
    ap (λ (b : Bool). (b && bytes_eq x.1 x.1) && same_present xs xs) place
    ∙ ap (λ (b : Bool). b && same_present xs xs) ((bytes_decides x.1 x.1).1 refl) ∙ test_of_same xs

none_some : (t : List ℕ) (o : Text) → o ≡ None → o ≡ Some t → ⊥
none_some t o none some = false≢true (ap (λ (x : Text). is_some x) (sym none ∙ some))

at_head : (p : ℕ) (t : List ℕ) (xs : Present) → text_at ((p, t) ∷ xs) p ≡ Some t
at_head p t xs = cond-true (eqb p p) (Some t) (text_at xs p) (grind (arith, nat_tests))

at_rest : (p : ℕ) (t : List ℕ) (xs : Present) (i : ℕ) → p < i → text_at ((p, t) ∷ xs) i ≡ text_at xs i
at_rest p t xs i lt = cond-false (eqb p i) (Some t) (text_at xs i) (grind (arith, nat_tests, lt))

same_rest : (p q : ℕ) (t u : List ℕ) (xs ys : Present) (b d : ℕ) → p ≡ q → IsRising (p + 1) b xs → IsRising (q + 1) d ys →
    ((i : ℕ) → text_at ((p, t) ∷ xs) i ≡ text_at ((q, u) ∷ ys) i) → (i : ℕ) → text_at xs i ≡ text_at ys i
same_rest p q t u xs ys b d place rx ry same i = elim (cases_lt p i) [
  | inl lt ↦ sym (at_rest p t xs i lt) ∙ same i ∙ at_rest q u ys i (omega (arith, place, lt))
  | inr le ↦ none_low xs (p + 1) b i rx (omega (arith, le)) ∙ sym (none_low ys (q + 1) d i ry (omega (arith, place, le)))
]

same_from_texts : (xs ys : Present) (a b c d : ℕ) → IsRising a b xs → IsRising c d ys → ((i : ℕ) → text_at xs i ≡ text_at ys i) → xs ≡ ys
same_from_texts [] [] a b c d rx ry same = refl
same_from_texts [] ((q, u) ∷ ys) a b c d rx ry same = absurd (none_some u (text_at ((q, u) ∷ ys) q) (sym (same q)) (at_head q u ys))
same_from_texts ((p, t) ∷ xs) [] a b c d rx ry same = absurd (none_some t (text_at ((p, t) ∷ xs) p) (same p) (at_head p t xs))
same_from_texts ((p, t) ∷ xs) ((q, u) ∷ ys) a b c d rx ry same = elim (cases_lt p q) [
  | inl lt ↦ absurd (none_some t (text_at ((p, t) ∷ xs) p) (same p ∙ none_low ((q, u) ∷ ys) q d p (omega arith, ry.1, ry.2) lt) (at_head p t xs))
  | inr ge ↦ elim (cases_lt q p) [
    | inl gt ↦ absurd (none_some u (text_at ((q, u) ∷ ys) q) (sym (same q) ∙ none_low ((p, t) ∷ xs) p b q (omega arith, rx.1, rx.2) gt) (at_head q u ys))
    | inr le ↦
        let place : p ≡ q = omega (arith, ge, le) in
        let text : t ≡ u = ap text_or (sym (at_head p t xs) ∙ same p ∙ ap (text_at ((q, u) ∷ ys)) place ∙ at_head q u ys) in
        ap (λ (n : ℕ). (n, t) ∷ xs) place ∙ ap (λ (v : List ℕ). (q, v) ∷ xs) text
        ∙ ap (λ (zs : Present). (q, u) ∷ zs) (same_from_texts xs ys (p + 1) b (q + 1) d rx.2 ry.2 (same_rest p q t u xs ys b d place rx.2 ry.2 same))
  ]
]

pub same_is : (r : Bool) (xs ys : Present) (a b : ℕ) → IsRising 0 a xs → IsRising 0 b ys → r ≡ (a == b && same_present xs ys) → (r ≡ true) ↔ (all_texts a xs ≡ all_texts b ys)
same_is r xs ys a b rx ry is = (
  λ h.
      let both = and_both (a == b) (same_present xs ys) (sym is ∙ h) in
      let counts : a ≡ b = grind (arith, nat_tests, both.0) in
      ap (λ (n : ℕ). all_texts n xs) counts ∙ ap (all_texts b) (same_from_test xs ys both.1),
  λ e.
      let counts : a ≡ b = sym (length_all a xs) ∙ ap (λ (l : List Text). length l) e ∙ length_all b ys in
      let texts : xs ≡ ys = same_from_texts xs ys 0 a 0 b rx ry (λ i. sym (all_get xs a i rx) ∙ ap (λ (l : List Text). get_or l i None) e ∙ all_get ys b i ry) in
      let tested : same_present xs ys ≡ true = ap (λ (zs : Present). same_present xs zs) (sym texts) ∙ test_of_same xs in
      let counted : (a == b) ≡ true = grind (arith, nat_tests, counts) in
      is ∙ ap (λ (c : Bool). c && same_present xs ys) counted ∙ tested,
)
