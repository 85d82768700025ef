-- Which name is looked up next, along the names that are wanted.
use Rattle.std.proofs.Common.{◌≡◌, ◌∙◌, ap, refl, ◌+◌, ◌<◌, ◌≤◌, ℕ, zero, suc, Bool, true, false, List, [], ◌∷◌, ◌++◌, length, take, get_or, add-one, arith, Option, None, Some}
use Rattle.std.specs.Prelude.{◌||◌, ◌&&◌, not, find, bytes_eq, if◌then◌else◌}
use Rattle.std.specs.List.{list_any, list_all}
use Rattle.std.proofs.lemmas.List.{take_all, length-append}
use Rattle.std.proofs.lemmas.Slice.Eq.{bytes_eq-Decides}
use Rattle.std.proofs.lemmas.List.Folds.{list_any-append}

-- whether a name was met
abbrev pub is_met : List (List ℕ) → List ℕ → Bool
is_met met name = list_any (bytes_eq name) met

-- the first name that wasn't met
abbrev pub first_new : List (List ℕ) → List (List ℕ) → Option (List ℕ)
first_new met names = find (λ name. not (is_met met name)) names

-- the names with one more, unless it is there
abbrev pub noted : List (List ℕ) → List ℕ → List (List ℕ)
noted met name = if is_met met name then met else met ++ name ∷ []

or_true : (a b : Bool) → b ≡ true → (a || b) ≡ true
or_true true b is = refl
or_true false b is = is

and_true : (a b : Bool) → a ≡ true → b ≡ true → (a && b) ≡ true
and_true a b p q = rw (p, q) refl

left_true : (a b : Bool) → (a && b) ≡ true → a ≡ true
left_true true b is = refl
left_true false b is = absurd cc

right_true : (a b : Bool) → (a && b) ≡ true → b ≡ true
right_true true b is = is
right_true false b is = absurd cc

-- what was met is met after one more name
met_stays : (met : List (List ℕ)) (x n : List ℕ) → is_met met n ≡ true → is_met (noted met x) n ≡ true
met_stays met x n is = go (is_met met x)
  where
    go : (b : Bool) → is_met (if b then met else met ++ x ∷ []) n ≡ true
    go true = is
    go false = list_any-append (bytes_eq n) met (x ∷ []) ∙ ap (λ b. b || (bytes_eq n x || false)) is

-- and so is that name
met_then : (met : List (List ℕ)) (x : List ℕ) → is_met (noted met x) x ≡ true
met_then met x = go (is_met met x) refl
  where
    go : (b : Bool) → is_met met x ≡ b → is_met (if b then met else met ++ x ∷ []) x ≡ true
    go true is = is
    go false is =
        list_any-append (bytes_eq x) met (x ∷ [])
        ∙ or_true (is_met met x) (bytes_eq x x || false) (ap (λ b. b || false) ((bytes_eq-Decides x x).1 refl))

-- Names up to a place were met, and with the one at the place one more.
pub front_more : (met : List (List ℕ)) (x : List ℕ) (names : List (List ℕ)) (i : ℕ) (d : List ℕ) → i < length names → get_or names i d ≡ x →
    list_all (is_met met) (take i names) ≡ true → list_all (is_met (noted met x)) (take (suc i) names) ≡ true
front_more met x [] i d lt is front = absurd (omega arith)
front_more met x (n ∷ ns) zero d lt is front = and_true _ _ (ap (is_met (noted met x)) is ∙ met_then met x) refl
front_more met x (n ∷ ns) (suc i) d lt is front =
    and_true _ _ (met_stays met x n (left_true _ _ front)) (front_more met x ns i d (omega arith) is (right_true (is_met met n) _ front))

-- the same, where it was met before
pub front_old : (met : List (List ℕ)) (x : List ℕ) (names : List (List ℕ)) (i : ℕ) (d : List ℕ) → i < length names → get_or names i d ≡ x →
    list_all (is_met met) (take i names) ≡ true → is_met met x ≡ true → list_all (is_met met) (take (i + 1) names) ≡ true
front_old met x names i d lt is front old =
    let more = front_more met x names i d lt is front in
    rw add-one (rw old at more)

-- and where it wasn't
pub front_new : (met met' : List (List ℕ)) (x : List ℕ) (names : List (List ℕ)) (i : ℕ) (d : List ℕ) → i < length names → get_or names i d ≡ x →
    list_all (is_met met) (take i names) ≡ true → is_met met x ≡ false → met' ≡ met ++ x ∷ [] → list_all (is_met met') (take (i + 1) names) ≡ true
front_new met met' x names i d lt is front fresh is_more =
    let more = front_more met x names i d lt is front in
    rw (add-one, is_more) (rw fresh at more)

-- The one at a place is the first new one, where those before it were met and it wasn't.
pub new_here : (met : List (List ℕ)) (x : List ℕ) (names : List (List ℕ)) (i : ℕ) (d : List ℕ) → i < length names → get_or names i d ≡ x →
    list_all (is_met met) (take i names) ≡ true → is_met met x ≡ false → first_new met names ≡ Some x
new_here met x [] i d lt is front fresh = absurd (omega arith)
new_here met x (n ∷ ns) zero d lt is front fresh = skip n is fresh
  where
    skip : (n : List ℕ) → n ≡ x → is_met met x ≡ false → first_new met (n ∷ ns) ≡ Some x
    skip n is fresh = rw (is, fresh) refl
new_here met x (n ∷ ns) (suc i) d lt is front fresh =
    rw (left_true (is_met met n) _ front) (new_here met x ns i d (omega arith) is (right_true (is_met met n) _ front) fresh)

-- There is none, where all were met.
pub none_new : (met : List (List ℕ)) (names : List (List ℕ)) → list_all (is_met met) names ≡ true → first_new met names ≡ None
none_new met [] all = refl
none_new met (n ∷ ns) all = rw (left_true (is_met met n) _ all) (none_new met ns (right_true (is_met met n) _ all))

-- There is none at the end of the names.
pub none_left : (met : List (List ℕ)) (names : List (List ℕ)) (i : ℕ) → length names ≤ i → list_all (is_met met) (take i names) ≡ true → first_new met names ≡ None
none_left met names i all front = none_new met names (rw (take_all i names all) at front)

-- A list with one more is no shorter than what the list was no shorter than.
pub longer : (k l l' : List (List ℕ)) (x : List ℕ) → length k ≤ length l → l' ≡ l ++ x ∷ [] → length k ≤ length l'
longer k l l' x no_shorter is =
    let more : length l' ≡ length l + 1 = ap length is ∙ length-append l (x ∷ []) in
    omega arith
