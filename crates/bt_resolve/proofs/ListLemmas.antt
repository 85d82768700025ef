-- Steps of the loops over places.
use Rattle.std.proofs.Common.{◌≡◌, ◌≢◌, ◌∙◌, ap, sym, refl, ℕ, zero, suc, ◌+◌, ◌<◌, List, [], ◌∷◌, ◌++◌, length, take, get_or, append_assoc, append-nil, Bool, true, false, Option, Some, None}
use Rattle.std.specs.Prelude.{◌==◌, ◌||◌, cond, unwrap_or, if◌then◌else◌, slice_get, slice_set}
use Rattle.std.specs.List.{list_any}
use Rattle.std.proofs.lemmas.Bool.Decides.{Decides-eqb}
use Rattle.std.proofs.lemmas.List.{take_more}
use Rattle.std.proofs.lemmas.List.Folds.{list_any-append}
use Rattle.bt_resolve.specs.Listed.{firsts, is_among}

-- what is in two equal options
pub same_some : {X : Type 0} (x y : X) → (let one : Option X = Some x in one ≡ Some y) → x ≡ y
same_some {X = X} x y is = ap (λ (o : Option X). unwrap_or o x) is

or_last : (a b : Bool) → cond a true b ≡ b || (a || false)
or_last true true = refl
or_last true false = refl
or_last false true = refl
or_last false false = refl

-- one more place is among them
among_last : (these : List ℕ) (x p : ℕ) → cond (x == p) true (is_among these p) ≡ is_among (these ++ x ∷ []) p
among_last these x p = or_last (x == p) (is_among these p) ∙ sym (list_any-append (λ q. q == p) these (x ∷ []))

pub among_next : (xs : List ℕ) (i d : ℕ) (old new : ℕ → Bool) → i < length xs → ((p : ℕ) → new p ≡ cond (get_or xs i d == p) true (old p)) →
    ((p : ℕ) → old p ≡ is_among (take i xs) p) → (p : ℕ) → new p ≡ is_among (take (i + 1) xs) p
among_next xs i d old new less step before p =
    step p ∙ ap (λ (b : Bool). cond (get_or xs i d == p) true b) (before p) ∙ among_last (take i xs) (get_or xs i d) p
    ∙ ap (λ (ps : List ℕ). is_among ps p) (sym (take_more xs i d less))

among_again : (c : Bool) (these : List ℕ) (x p : ℕ) → (x == p) ≡ c → is_among these x ≡ true → cond c true (is_among these p) ≡ is_among these p
among_again true these x p same there =
    let is : x ≡ p = (Decides-eqb x p).0 same in
    sym there ∙ ap (λ (q : ℕ). is_among these q) is
among_again false these x p other there = refl

-- a place is added after those found so far, unless it is among them
pub among_first : (b : Bool) (found : List ℕ) (x p : ℕ) → is_among found x ≡ b → cond (x == p) true (is_among found p) ≡ is_among (found ++ (if b then [] else x ∷ [])) p
among_first true found x p there = among_again (x == p) found x p refl there ∙ ap (λ (ps : List ℕ). is_among ps p) (sym (append-nil found))
among_first false found x p other = among_last found x p

pub firsts_next : (b : Bool) (found : List ℕ) (x : ℕ) (rest : List ℕ) → is_among found x ≡ b →
    (found ++ (if b then [] else x ∷ [])) ++ firsts (found ++ (if b then [] else x ∷ [])) rest ≡ found ++ firsts found (x ∷ rest)
firsts_next true found x rest there =
    ap (λ (ps : List ℕ). ps ++ firsts ps rest) (append-nil found)
    ∙ ap (λ (b : Bool). found ++ (if b then firsts found rest else x ∷ firsts (found ++ x ∷ []) rest)) (sym there)
firsts_next false found x rest other =
    append_assoc found (x ∷ []) (firsts (found ++ x ∷ []) rest)
    ∙ ap (λ (b : Bool). found ++ (if b then firsts found rest else x ∷ firsts (found ++ x ∷ []) rest)) (sym other)

-- ---- one element is replaced

pub set_itself : {A : Type 0} (xs : List A) (k : ℕ) (x : A) → slice_get xs k ≡ Some x → slice_set xs k x ≡ xs
set_itself [] k x is = refl
set_itself (d ∷ xs) zero x is = λ j. sym (same_some d x is) j ∷ xs
set_itself (d ∷ xs) (suc k) x is = ap (λ ys. d ∷ ys) (set_itself xs k x is)

pub set_same : {A : Type 0} (xs : List A) (k : ℕ) (x y : A) → slice_get xs k ≡ Some x → slice_get (slice_set xs k y) k ≡ Some y
set_same {A} [] k x y is = let none : Option A = None in let wrong : none ≡ Some x = is in cc
set_same (d ∷ xs) zero x y is = refl
set_same (d ∷ xs) (suc k) x y is = set_same xs k x y is

pub set_other : {A : Type 0} (xs : List A) (k n : ℕ) (y : A) → k ≢ n → slice_get (slice_set xs k y) n ≡ slice_get xs n
set_other [] k n y other = refl
set_other (d ∷ xs) zero zero y other = absurd (other refl)
set_other (d ∷ xs) zero (suc n) y other = refl
set_other (d ∷ xs) (suc k) zero y other = refl
set_other (d ∷ xs) (suc k) (suc n) y other = set_other xs k n y (λ same. other (ap (λ m. suc m) same))

-- ---- an element passes a test

or_true : (b : Bool) → b || true ≡ true
or_true true = refl
or_true false = refl

pub any_at : {A : Type 0} (test : A → Bool) (xs : List A) (k : ℕ) (x : A) → slice_get xs k ≡ Some x → test x ≡ true → list_any test xs ≡ true
any_at {A} test [] k x is passes = let none : Option A = None in let wrong : none ≡ Some x = is in cc
any_at test (y ∷ xs) zero x is passes = ap (λ (b : Bool). b || list_any test xs) (ap test (same_some y x is) ∙ passes)
any_at test (y ∷ xs) (suc k) x is passes = ap (λ (b : Bool). test y || b) (any_at test xs k x is passes) ∙ or_true (test y)
