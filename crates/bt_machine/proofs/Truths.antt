-- What follows of tests that hold.
use Rattle.std.proofs.Common.{◌≡◌, ℕ, Bool, true, false, ◌&&◌, ◌||◌, List, [], ◌∷◌, refl, sym, ap, subst, ◌∙◌, true≢false}
use Rattle.std.specs.Prelude.{nat_eq}
use Rattle.std.specs.List.{list_all}
use Rattle.std.proofs.lemmas.Bool.{eqb-true, eq-eqb}
use Rattle.bt_machine.specs.inner.Footprint.{among}
use Rattle.bt_machine.specs.Agreement.{same_where}

pub and_both : (a c : Bool) → (a && c) ≡ true → (a ≡ true) × (c ≡ true)
and_both true c h = (refl, h)
and_both false c h = absurd (true≢false (sym h))

pub and_true : (a c : Bool) → a ≡ true → c ≡ true → (a && c) ≡ true
and_true a c h i = ap (λ a. a && c) h ∙ i

pub or_left : (a c : Bool) → a ≡ true → (a || c) ≡ true
or_left a c h = ap (λ a. a || c) h

pub or_right : (a c : Bool) → c ≡ true → (a || c) ≡ true
or_right true c h = refl
or_right false c h = h

pub or_true : {P : Type 0} (a c : Bool) → (a || c) ≡ true → (a ≡ true → P) → (c ≡ true → P) → P
or_true true c h f g = f refl
or_true false c h f g = g h

-- what is the same where it is reached
pub where_true : (k c : Bool) → same_where k c ≡ true → k ≡ true → c ≡ true
where_true true c h e = h
where_true false c h e = absurd (true≢false (sym e))

pub true_where : (k c : Bool) → (k ≡ true → c ≡ true) → same_where k c ≡ true
true_where true c h = h refl
true_where false c h = refl

-- a test of each of some places

pub all_at : (f : ℕ → Bool) (ns : List ℕ) → list_all f ns ≡ true → (n : ℕ) → among ns n ≡ true → f n ≡ true
all_at f [] h n k = absurd (true≢false (sym k))
all_at f (m ∷ ns) h n k =
    let a = and_both (f m) (list_all f ns) h in
    or_true (nat_eq m n) (among ns n) k (λ e. subst (λ m. f m ≡ true) (eqb-true m n e) a.0) (all_at f ns a.1 n)

pub all_from : (f : ℕ → Bool) (ns : List ℕ) → ((n : ℕ) → among ns n ≡ true → f n ≡ true) → list_all f ns ≡ true
all_from f [] h = refl
all_from f (m ∷ ns) h =
    and_true (f m) (list_all f ns) (h m (or_left (nat_eq m m) (among ns m) (eq-eqb m m refl))) (all_from f ns (λ n k. h n (or_right (nat_eq m n) (among ns n) k)))
