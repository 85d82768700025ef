-- The texts of a range of places.
use Rattle.std.proofs.Common.{◌≡◌, refl, sym, ap, ◌∙◌, ℕ, zero, suc, ◌+◌, ◌<◌, ◌≤◌, ◌≢◌, arith, List, [], ◌∷◌, map, set, replicate, get_or, Option, None}
use Rattle.std.specs.List.{range_with_len}
use Rattle.std.specs.Option.{option_or}
use Rattle.bt_text.specs.Sparse.{text_at, filled_from}

-- a text or none
abbrev pub Text : Type 0
Text = Option (List ℕ)

pub range_alike : (f g : ℕ → Text) (a n : ℕ) → ((i : ℕ) → a ≤ i → i < a + n → f i ≡ g i) → map f (range_with_len a n) ≡ map g (range_with_len a n)
range_alike f g a zero same = refl
range_alike f g a (suc n) same =
    ap (λ (v : Text). v ∷ map f (range_with_len (a + 1) n)) (same a (omega arith) (omega arith))
    ∙ ap (λ (vs : List Text). g a ∷ vs) (range_alike f g (a + 1) n (λ i le lt. same i (omega (arith, le)) (omega (arith, lt))))

pub range_none : (a n : ℕ) → map (text_at []) (range_with_len a n) ≡ replicate n None
range_none a zero = refl
range_none a (suc n) = ap (λ (vs : List Text). None ∷ vs) (range_none (a + 1) n)

pub range_get : (f : ℕ → Text) (a n i : ℕ) → i < n → get_or (map f (range_with_len a n)) i None ≡ f (a + i)
range_get f a zero i lt = absurd (omega (arith, lt))
range_get f a (suc n) zero lt = ap f (omega arith)
range_get f a (suc n) (suc i) lt = range_get f (a + 1) n i (omega (arith, lt)) ∙ ap f (omega arith)

pub range_get_behind : (f : ℕ → Text) (a n i : ℕ) → n ≤ i → get_or (map f (range_with_len a n)) i None ≡ None
range_get_behind f a zero i le = refl
range_get_behind f a (suc n) zero le = absurd (omega (arith, le))
range_get_behind f a (suc n) (suc i) le = range_get_behind f (a + 1) n i (omega (arith, le))

pub range_set : (f g : ℕ → Text) (a n i : ℕ) → ((q : ℕ) → q ≢ a + i → g q ≡ f q) → set (map f (range_with_len a n)) i (g (a + i)) ≡ map g (range_with_len a n)
range_set f g a zero i other = refl
range_set f g a (suc n) zero other =
    ap (λ (v : Text). v ∷ map f (range_with_len (a + 1) n)) (ap g (omega arith))
    ∙ ap (λ (vs : List Text). g a ∷ vs) (range_alike f g (a + 1) n (λ i le lt. sym (other i (λ same. omega (arith, same, le)))))
range_set f g a (suc n) (suc i) other =
    let e : a + suc i ≡ (a + 1) + i = omega arith in
    ap (λ (v : Text). v ∷ set (map f (range_with_len (a + 1) n)) i (g (a + suc i))) (sym (other a (λ same. omega (arith, same))))
    ∙ ap (λ (v : Text). g a ∷ set (map f (range_with_len (a + 1) n)) i v) (ap g e)
    ∙ ap (λ (vs : List Text). g a ∷ vs) (range_set f g (a + 1) n i (λ q apart. other q (λ same. apart (same ∙ e))))

pub range_behind : (f : ℕ → Text) (a n i : ℕ) (v : Text) → n ≤ i → set (map f (range_with_len a n)) i v ≡ map f (range_with_len a n)
range_behind f a zero i v le = refl
range_behind f a (suc n) zero v le = absurd (omega (arith, le))
range_behind f a (suc n) (suc i) v le = ap (λ (vs : List Text). f a ∷ vs) (range_behind f (a + 1) n i v (omega (arith, le)))

pub range_filled : (f g : ℕ → Text) (a n m : ℕ) → ((i : ℕ) → a + m ≤ i → g i ≡ None) →
    filled_from (map f (range_with_len a n)) (map g (range_with_len a m)) ≡ map (λ i. option_or (f i) (g i)) (range_with_len a n)
range_filled f g a zero m none = refl
range_filled f g a (suc n) zero none =
    ap (λ (v : Text). option_or (f a) v ∷ filled_from (map f (range_with_len (a + 1) n)) []) (sym (none a (omega arith)))
    ∙ ap (λ (vs : List Text). option_or (f a) (g a) ∷ vs) (range_filled f g (a + 1) n zero (λ i le. none i (omega (arith, le))))
range_filled f g a (suc n) (suc m) none =
    ap (λ (vs : List Text). option_or (f a) (g a) ∷ vs) (range_filled f g (a + 1) n m (λ i le. none i (omega (arith, le))))
