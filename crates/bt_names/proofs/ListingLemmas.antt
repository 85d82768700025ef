-- Counting names.
use Rattle.std.proofs.Common.{◌≡◌, ℕ, zero, suc, ◌+◌, ◌-◌, ◌<◌, ◌≤◌, Bool, true, false, cond, eqb, List, [], ◌∷◌, ◌++◌, ◌&&◌, ◌||◌, get_or, length, take, drop, filter, slice_get, slice_range, Option, refl, sym, ap, ◌∙◌, add-zero, arith, length-append, None}
use Rattle.std.specs.List.{range_with_len}
use Rattle.std.proofs.lemmas.Bool.{cond-true, cond-false, and_left, and_right}
use Rattle.std.specs.Char.{to_ascii_lowercase}
use Rattle.std.proofs.lemmas.Bool.Decides.{nat_tests}
use Rattle.std.proofs.lemmas.List.{drop_more}
use Rattle.std.proofs.lemmas.List.Elements.{filter-append}
use Rattle.bt_text.proofs.BlockLemmas.{depth_take}
use Rattle.bt_text.specs.ByteTests.{is_white}
use Rattle.bt_text.specs.Depth.{depth, depth_after}
use Rattle.bt_names.specs.Names.{begins_with_and, has_and_at, follows_white, places_of_and, texts_between, names_of}

abbrev pub and_places_below : List ℕ → ℕ → List ℕ
and_places_below t n = filter (λ i. eqb (depth (take i t)) 0 && has_and_at t i) (range_with_len 0 n)

range_push : (a n : ℕ) → range_with_len a (suc n) ≡ range_with_len a n ++ (a + n) ∷ []
range_push a zero = rw add-zero refl
range_push a (suc n) =
    let same : a + 1 + n ≡ a + suc n = omega arith in
    ap (λ l. a ∷ l) (range_push (a + 1) n ∙ ap (λ k. range_with_len (a + 1) n ++ k ∷ []) same)

length-cond : (b : Bool) (i : ℕ) → length (cond b (i ∷ []) []) ≡ cond b 1 0
length-cond true i = refl
length-cond false i = refl

filter_range_more : (p : ℕ → Bool) (i : ℕ) → length (filter p (range_with_len 0 (i + 1))) ≡ length (filter p (range_with_len 0 i)) + cond (p i) 1 0
filter_range_more p i =
    let below = range_with_len 0 i in
    let one : i + 1 ≡ suc i = omega arith in
    let none : 0 + i ≡ i = omega arith in
    let whole : range_with_len 0 (i + 1) ≡ below ++ i ∷ [] = ap (range_with_len 0) one ∙ range_push 0 i ∙ ap (λ k. below ++ k ∷ []) none in
    ap (λ l. length (filter p l)) whole ∙ ap length (filter-append p below (i ∷ [])) ∙ length-append (filter p below) (filter p (i ∷ [])) ∙ ap (λ k. length (filter p below) + k) (length-cond (p i) i)

pub and_places_more : (t : List ℕ) (i : ℕ) → length (and_places_below t (i + 1)) ≡ length (and_places_below t i) + cond (eqb (depth (take i t)) 0 && has_and_at t i) 1 0
and_places_more t i = filter_range_more (λ i. eqb (depth (take i t)) 0 && has_and_at t i) i

pub length-texts_between : (t : List ℕ) (start : ℕ) (places : List ℕ) → length (texts_between t start places) ≡ length places + 1
length-texts_between t start [] = refl
length-texts_between t start (i ∷ places) = omega (arith, length-texts_between t (i + 3) places)

pub length-names : (t : List ℕ) → 0 < length t → length (names_of t) ≡ length (and_places_below t (length t)) + 1
unfolding names_of
length-names [] h = absurd (omega arith)
length-names (b ∷ t) h = length-texts_between (b ∷ t) 0 (places_of_and (b ∷ t))

-- the places of `and` from place i on
abbrev pub and_places_from : List ℕ → ℕ → List ℕ
and_places_from t i = filter (λ i. eqb (depth (take i t)) 0 && has_and_at t i) (range_with_len i (length t - i))

-- the names from start on, where the next `and` is looked for from place i on
abbrev pub names_from : List ℕ → ℕ → ℕ → List (List ℕ)
names_from t start i = texts_between t start (and_places_from t i)

texts_cond : (b : Bool) (t : List ℕ) (start i : ℕ) (is : List ℕ) → texts_between t start (cond b (i ∷ is) is) ≡ cond b (slice_range t start i ∷ texts_between t (i + 3) is) (texts_between t start is)
texts_cond true t start i is = refl
texts_cond false t start i is = refl

pub names_from_more : (t : List ℕ) (start i : ℕ) → i < length t → names_from t start i ≡ cond (eqb (depth (take i t)) 0 && has_and_at t i) (slice_range t start i ∷ names_from t (i + 3) (i + 1)) (names_from t start (i + 1))
names_from_more t start i h =
    let p = λ (i : ℕ). eqb (depth (take i t)) 0 && has_and_at t i in
    let more : length t - i ≡ suc (length t - (i + 1)) = omega arith in
    ap (λ n. texts_between t start (filter p (range_with_len i n))) more ∙ texts_cond (p i) t start i (and_places_from t (i + 1))

pub names_from_end : (t : List ℕ) (start i : ℕ) → length t ≤ i → names_from t start i ≡ drop start t ∷ []
names_from_end t start i h =
    let p = λ (i : ℕ). eqb (depth (take i t)) 0 && has_and_at t i in
    let none : length t - i ≡ 0 = omega arith in
    ap (λ n. texts_between t start (filter p (range_with_len i n))) none

pub names_from_start : (t : List ℕ) → 0 < length t → names_from t 0 0 ≡ names_of t
unfolding names_of
names_from_start [] h = absurd (omega arith)
names_from_start (b ∷ t) h =
    let p = λ (i : ℕ). eqb (depth (take i (b ∷ t))) 0 && has_and_at (b ∷ t) i in
    let whole : length (b ∷ t) - 0 ≡ length (b ∷ t) = omega arith in
    ap (λ n. texts_between (b ∷ t) 0 (filter p (range_with_len 0 n))) whole

pub name_skipped : (t : List ℕ) (start i left d : ℕ) (name : Option (List ℕ)) → i < length t → d ≡ depth (take i t) → (eqb d 0 && has_and_at t i) ≡ false → slice_get (names_from t start i) left ≡ name → slice_get (names_from t start (i + 1)) left ≡ name
name_skipped t start i left d name h g e f =
    let here = ap (λ d. eqb d 0 && has_and_at t i) (sym g) ∙ e in
    sym (ap (λ ts. slice_get ts left) (names_from_more t start i h ∙ cond-false (eqb (depth (take i t)) 0 && has_and_at t i) (slice_range t start i ∷ names_from t (i + 3) (i + 1)) (names_from t start (i + 1)) here)) ∙ f

pub names_here : (t : List ℕ) (start i d : ℕ) → i < length t → d ≡ depth (take i t) → (eqb d 0 && has_and_at t i) ≡ true → names_from t start i ≡ slice_range t start i ∷ names_from t (i + 3) (i + 1)
names_here t start i d h g e =
    let here = ap (λ d. eqb d 0 && has_and_at t i) (sym g) ∙ e in
    names_from_more t start i h ∙ cond-true (eqb (depth (take i t)) 0 && has_and_at t i) (slice_range t start i ∷ names_from t (i + 3) (i + 1)) (names_from t start (i + 1)) here

pub depth_behind_most : (d b : ℕ) → depth_after d b ≤ d + 1
depth_behind_most d b = by_test (eqb b 123) (eqb b 125)
  where
    by_test : (x y : Bool) → cond x (d + 1) (cond y (d - 1) d) ≤ d + 1
    by_test true y = omega arith
    by_test false true = omega arith
    by_test false false = omega arith

-- No separator stands where its first letter doesn't.
small_a : (b : ℕ) → (eqb b 97 || eqb b 65 || eqb b 123 || eqb b 125) ≡ false → eqb (to_ascii_lowercase b) 97 ≡ false
small_a b h = grind (arith, nat_tests)

no_and : (b : ℕ) (t : List ℕ) → (eqb b 97 || eqb b 65 || eqb b 123 || eqb b 125) ≡ false → begins_with_and (b ∷ t) ≡ false
no_and b [] h = refl
no_and b (n ∷ []) h = refl
no_and b (n ∷ d ∷ []) h = refl
no_and b (n ∷ d ∷ w ∷ t) h = and_left _ (is_white w) (and_left (eqb (to_ascii_lowercase b) 97) _ (small_a b h))

no_and_at : (t : List ℕ) (i : ℕ) → i < length t → (eqb (get_or t i 0) 97 || eqb (get_or t i 0) 65 || eqb (get_or t i 0) 123 || eqb (get_or t i 0) 125) ≡ false → has_and_at t i ≡ false
unfolding has_and_at
no_and_at t i lt h = and_right (follows_white t i) (begins_with_and (drop i t)) (ap begins_with_and (drop_more t i 0 lt) ∙ no_and (get_or t i 0) (drop (i + 1) t) h)

-- The depth changes only at braces.
unmarked_depth : (d b : ℕ) → (eqb b 97 || eqb b 65 || eqb b 123 || eqb b 125) ≡ false → depth_after d b ≡ d
unmarked_depth d b h = grind (arith, nat_tests)

-- Bytes that aren't marks change nothing.
pub unmarked : (t : List ℕ) (i : ℕ) → i < length t → (eqb (get_or t i 0) 97 || eqb (get_or t i 0) 65 || eqb (get_or t i 0) 123 || eqb (get_or t i 0) 125) ≡ false → (depth (take i t) ≡ depth (take (i + 1) t)) × ((eqb (depth (take i t)) 0 && has_and_at t i) ≡ false)
unmarked t i lt plain = (sym (depth_take t i lt ∙ unmarked_depth (depth (take i t)) (get_or t i 0) plain), and_right (eqb (depth (take i t)) 0) (has_and_at t i) (no_and_at t i lt plain))

pub and_at : (t : List ℕ) (i : ℕ) → has_and_at t i ≡ (follows_white t i && begins_with_and (drop i t))
unfolding has_and_at
and_at t i = refl

pub no_names : (t : List ℕ) → length t ≡ 0 → length (names_of t) ≡ 0
unfolding names_of
no_names [] h = refl
no_names (b ∷ t) h = absurd (omega (arith, h))

pub no_name : (t : List ℕ) (i : ℕ) → length t ≡ 0 → slice_get (names_of t) i ≡ None
unfolding names_of
no_name [] i h = refl
no_name (b ∷ t) i h = absurd (omega (arith, h))

pub ruleset naming = (depth_take, names_from_more, names_from_end, names_from_start, names_here)

pub ruleset counting = (depth_take, and_places_more, length-names, no_names)
