-- Texts, each that is missing taken from others.
use Rattle.std.proofs.Common.{◌≡◌, refl, ap, ◌∙◌, ℕ, zero, suc, ◌≤◌, Bool, true, false, arith, List, [], ◌∷◌, length, set, drop, replicate, get_or, Option, Some, None}
use Rattle.std.specs.Prelude.{◌<◌, is_none, ◌&&◌}
use Rattle.std.specs.List.{list_all}
use Rattle.std.specs.Option.{option_or}
use Rattle.bt_text.specs.Sparse.{filled_from}

abbrev Text : Type 0
Text = Option (List ℕ)

or_none : (x : Text) → option_or x None ≡ x
or_none None = refl
or_none (Some text) = refl

or_assoc : (x y z : Text) → option_or (option_or x y) z ≡ option_or x (option_or y z)
or_assoc None y z = refl
or_assoc (Some text) y z = refl

pub filled_none : (xs : List Text) → filled_from xs [] ≡ xs
filled_none [] = refl
filled_none (x ∷ xs) = ap (λ (v : Text). v ∷ filled_from xs []) (or_none x) ∙ ap (λ (vs : List Text). x ∷ vs) (filled_none xs)

pub filled_length : (xs ys : List Text) → length (filled_from xs ys) ≡ length xs
filled_length [] ys = refl
filled_length (x ∷ xs) ys = ap suc (filled_length xs (drop 1 ys))

pub filled_get : (xs ys : List Text) (i : ℕ) → length ys ≤ length xs → get_or (filled_from xs ys) i None ≡ option_or (get_or xs i None) (get_or ys i None)
filled_get [] [] i le = refl
filled_get [] (y ∷ ys) i le = absurd (omega (arith, le))
filled_get (x ∷ xs) ys zero le = refl
filled_get (x ∷ xs) [] (suc i) le = filled_get xs [] i (omega arith)
filled_get (x ∷ xs) (y ∷ ys) (suc i) le = filled_get xs ys i (omega (arith, le))

pub filled_put : (xs ys : List Text) (place : ℕ) (text : List ℕ) → filled_from (set xs place (Some text)) ys ≡ set (filled_from xs ys) place (Some text)
filled_put [] ys place text = refl
filled_put (x ∷ xs) ys zero text = refl
filled_put (x ∷ xs) ys (suc place) text = ap (λ (vs : List Text). option_or x (get_or ys 0 None) ∷ vs) (filled_put xs (drop 1 ys) place text)

pub filled_clear : (xs ys : List Text) (place : ℕ) → get_or ys place None ≡ None → filled_from (set xs place None) ys ≡ set (filled_from xs ys) place None
filled_clear [] ys place none = refl
filled_clear (x ∷ xs) ys zero none = ap (λ (v : Text). v ∷ filled_from xs (drop 1 ys)) none
filled_clear (x ∷ xs) [] (suc place) none = ap (λ (vs : List Text). option_or x None ∷ vs) (filled_clear xs [] place refl)
filled_clear (x ∷ xs) (y ∷ ys) (suc place) none = ap (λ (vs : List Text). option_or x y ∷ vs) (filled_clear xs ys place none)

pub filled_twice : (xs ys zs : List Text) → length zs ≤ length ys → filled_from (filled_from xs ys) zs ≡ filled_from xs (filled_from ys zs)
filled_twice [] ys zs le = refl
filled_twice (x ∷ xs) [] [] le =
    ap (λ (v : Text). v ∷ filled_from (filled_from xs []) []) (or_assoc x None None) ∙ ap (λ (vs : List Text). option_or x None ∷ vs) (filled_twice xs [] [] le)
filled_twice (x ∷ xs) [] (z ∷ zs) le = absurd (omega (arith, le))
filled_twice (x ∷ xs) (y ∷ ys) [] le =
    ap (λ (v : Text). v ∷ filled_from (filled_from xs ys) []) (or_assoc x y None)
    ∙ ap (λ (vs : List Text). option_or x (option_or y None) ∷ vs) (filled_twice xs ys [] (omega arith))
filled_twice (x ∷ xs) (y ∷ ys) (z ∷ zs) le =
    ap (λ (v : Text). v ∷ filled_from (filled_from xs ys) zs) (or_assoc x y z)
    ∙ ap (λ (vs : List Text). option_or x (option_or y z) ∷ vs) (filled_twice xs ys zs (omega (arith, le)))

pub filled_gaps : (n : ℕ) (ys : List Text) → length ys ≡ n → filled_from (replicate n None) ys ≡ ys
filled_gaps zero [] is = refl
filled_gaps zero (y ∷ ys) is = absurd (omega (arith, is))
filled_gaps (suc n) [] is = absurd (omega (arith, is))
filled_gaps (suc n) (y ∷ ys) is = ap (λ (vs : List Text). y ∷ vs) (filled_gaps n ys (omega (arith, is)))

-- ---- none of them

and_true : (b : Bool) → b ≡ (b && true)
and_true true = refl
and_true false = refl

both_none : (x y : Text) → is_none (option_or x y) ≡ (is_none x && is_none y)
both_none None y = refl
both_none (Some text) y = refl

and_apart : (a b c d : Bool) → ((a && b) && (c && d)) ≡ ((a && c) && (b && d))
and_apart true true c d = refl
and_apart true false true d = refl
and_apart true false false d = refl
and_apart false b c d = refl

pub filled_has_none : (xs ys : List Text) → length ys ≤ length xs → list_all is_none (filled_from xs ys) ≡ (list_all is_none xs && list_all is_none ys)
filled_has_none xs [] le = ap (list_all is_none) (filled_none xs) ∙ and_true (list_all is_none xs)
filled_has_none [] (y ∷ ys) le = absurd (omega (arith, le))
filled_has_none (x ∷ xs) (y ∷ ys) le =
    ap (λ (b : Bool). b && list_all is_none (filled_from xs ys)) (both_none x y)
    ∙ ap (λ (b : Bool). (is_none x && is_none y) && b) (filled_has_none xs ys (omega (arith, le)))
    ∙ and_apart (is_none x) (is_none y) (list_all is_none xs) (list_all is_none ys)

-- ---- the same at each place

abbrev pub AreAlike : ℕ → List Text → List Text → Type 0
AreAlike n xs ys = (i : ℕ) → i < n → get_or xs i None ≡ get_or ys i None

pub alike_are_same : (xs ys : List Text) → length xs ≡ length ys → AreAlike (length xs) xs ys → xs ≡ ys
alike_are_same [] [] long alike = refl
alike_are_same [] (y ∷ ys) long alike = absurd (omega (arith, long))
alike_are_same (x ∷ xs) [] long alike = absurd (omega (arith, long))
alike_are_same (x ∷ xs) (y ∷ ys) long alike =
    ap (λ (v : Text). v ∷ xs) (alike 0 (omega arith))
    ∙ ap (λ (vs : List Text). y ∷ vs) (alike_are_same xs ys (omega (arith, long)) (λ i lt. alike (suc i) (omega (arith, lt))))
