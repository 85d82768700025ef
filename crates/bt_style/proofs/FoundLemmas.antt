-- What is found once targets are noted.
use Rattle.std.proofs.Common.{length-append, ◌≡◌, ◌∙◌, ◌⊎◌, subst, refl, inl, inr, ℕ, zero, suc, ◌+◌, ◌<◌, ◌≤◌, arith, Bool, true, false, cond, List, [], ◌∷◌, ◌++◌, length, get_or}
use Rattle.std.specs.Prelude.{◌||◌, ◌↔◌, if◌then◌else◌, Contains, IsTrue}
use Rattle.std.specs.List.{IsDistinct, AllByRecursion}
use Rattle.std.proofs.lemmas.Bool.{cases_Bool, cond-true, cond-false}
use Rattle.std.proofs.lemmas.List.{get_or_append_left}
use Rattle.bt_style.specs.declared.style.Target.{Target}
use Rattle.bt_style.specs.Reach.{target_eq, is_among, noted, noted_all}
use Rattle.bt_style.proofs.ReachLemmas.{target_eq_sound, target_eq_refl}

abbrev pub In : List Target → Target → Type 0
In ts t = is_among ts t ≡ true

or_cases : (a b : Bool) → (a || b) ≡ true → (a ≡ true) ⊎ (b ≡ true)
or_cases true b h = inl refl
or_cases false b h = inr h

or_first : (a b : Bool) → a ≡ true → (a || b) ≡ true
or_first true b h = refl
or_first false b h = cc

or_second : (a b : Bool) → b ≡ true → (a || b) ≡ true
or_second true b h = refl
or_second false b h = h

or_neither : (a b : Bool) → (a || b) ≡ false → (a ≡ false) × (b ≡ false)
or_neither true b h = cc
or_neither false b h = (refl, h)

pub in_first : (ts us : List Target) (t : Target) → In ts t → In (ts ++ us) t
in_first [] us t h = cc
in_first (x ∷ ts) us t h =
    elim (or_cases (target_eq x t) (is_among ts t) h) [
      | inl e ↦ or_first (target_eq x t) (is_among (ts ++ us) t) e
      | inr i ↦ or_second (target_eq x t) (is_among (ts ++ us) t) (in_first ts us t i)
    ]

pub in_second : (ts us : List Target) (t : Target) → In us t → In (ts ++ us) t
in_second [] us t h = h
in_second (x ∷ ts) us t h = or_second (target_eq x t) (is_among (ts ++ us) t) (in_second ts us t h)

pub in_either : (ts us : List Target) (t : Target) → In (ts ++ us) t → In ts t ⊎ In us t
in_either [] us t h = inr h
in_either (x ∷ ts) us t h =
    elim (or_cases (target_eq x t) (is_among (ts ++ us) t) h) [
      | inl e ↦ inl (or_first (target_eq x t) (is_among ts t) e)
      | inr i ↦ elim (in_either ts us t i) [ inl l ↦ inl (or_second (target_eq x t) (is_among ts t) l) | inr r ↦ inr r ]
    ]

pub in_one : (t : Target) → In (t ∷ []) t
in_one t = or_first (target_eq t t) false (target_eq_refl t)

one_is : (x t : Target) → In (x ∷ []) t → x ≡ t
one_is x t h = elim (or_cases (target_eq x t) false h) [ inl e ↦ target_eq_sound x t e | inr f ↦ absurd cc ]

-- a place for each target that is among some
pub placed : (ts : List Target) (t d : Target) → In ts t → (j : ℕ) × (j < length ts) × (get_or ts j d ≡ t)
placed [] t d h = cc
placed (x ∷ ts) t d h =
    elim (or_cases (target_eq x t) (is_among ts t) h) [
      | inl e ↦ (0, omega arith, target_eq_sound x t e)
      | inr i ↦ let r = placed ts t d i in (suc r.0, omega (arith, r.1), r.2)
    ]

pub at_place : (ts : List Target) (j : ℕ) (d : Target) → j < length ts → In ts (get_or ts j d)
at_place [] j d h = absurd (omega arith)
at_place (x ∷ ts) zero d h = or_first (target_eq x x) (is_among ts x) (target_eq_refl x)
at_place (x ∷ ts) (suc j) d h = or_second (target_eq x (get_or ts j d)) (is_among ts (get_or ts j d)) (at_place ts j d (omega arith))

pub contained : (ts : List Target) (t : Target) → In ts t → Contains ts t
contained ts t h = placed ts t t h

pub among : (ts : List Target) (t : Target) → Contains ts t → In ts t
among ts t h = let P : Target → Type 0 = λ x. In ts x in subst P h.2 (at_place ts h.0 t h.1)

pub among_tells : (ts : List Target) (t : Target) → IsTrue (is_among ts t) ↔ Contains ts t
among_tells ts t = (contained ts t, among ts t)

pub either_tells : (ts : List Target) (t u : Target) → IsTrue (is_among ts t || is_among ts u) ↔ (Contains ts t ⊎ Contains ts u)
either_tells ts t u = (
  λ h. elim (or_cases (is_among ts t) (is_among ts u) h) [ inl a ↦ inl (contained ts t a) | inr b ↦ inr (contained ts u b) ],
  λ s. elim s [ inl a ↦ or_first (is_among ts t) (is_among ts u) (among ts t a) | inr b ↦ or_second (is_among ts t) (is_among ts u) (among ts u b) ],
)

-- a target that is noted

pub noted_is : (found : List Target) (t : Target) → ((is_among found t ≡ true) × (noted found t ≡ found)) ⊎ ((is_among found t ≡ false) × (noted found t ≡ found ++ t ∷ []))
noted_is found t =
    elim (cases_Bool (is_among found t)) [
      | inl y ↦ inl (y, cond-true (is_among found t) found (found ++ t ∷ []) y)
      | inr n ↦ inr (n, cond-false (is_among found t) found (found ++ t ∷ []) n)
    ]

noted_old : (found : List Target) (t u : Target) → In found u → In (noted found t) u
noted_old found t u h = elim (noted_is found t) [ inl e ↦ rw (e.1) h | inr e ↦ rw (e.1) (in_first found (t ∷ []) u h) ]

noted_new : (found : List Target) (t : Target) → In (noted found t) t
noted_new found t = elim (noted_is found t) [ inl e ↦ rw (e.1) (e.0) | inr e ↦ rw (e.1) (in_second found (t ∷ []) t (in_one t)) ]

noted_from : (found : List Target) (t u : Target) → In (noted found t) u → In found u ⊎ (t ≡ u)
noted_from found t u h =
    elim (noted_is found t) [
      | inl e ↦ inl (rw (e.1) at h)
      | inr e ↦ elim (in_either found (t ∷ []) u (rw (e.1) at h)) [ inl l ↦ inl l | inr r ↦ inr (one_is t u r) ]
    ]

noted_at : (found : List Target) (t : Target) (j : ℕ) (d : Target) → j < length found → get_or (noted found t) j d ≡ get_or found j d
noted_at found t j d h = elim (noted_is found t) [ inl e ↦ rw (e.1) refl | inr e ↦ rw (e.1) (get_or_append_left found (t ∷ []) d j h) ]

all_push : (xs : List Target) (x t : Target) → AllByRecursion (λ y. target_eq x y ≡ false) xs → target_eq x t ≡ false → AllByRecursion (λ y. target_eq x y ≡ false) (xs ++ t ∷ [])
all_push [] x t a h = (h, tt)
all_push (y ∷ xs) x t a h = (a.0, all_push xs x t a.1 h)

distinct_push : (xs : List Target) (t : Target) → is_among xs t ≡ false → IsDistinct target_eq xs → IsDistinct target_eq (xs ++ t ∷ [])
unfolding IsDistinct
distinct_push [] t h d = (tt, tt)
distinct_push (x ∷ xs) t h d =
    let both : (target_eq x t ≡ false) × (is_among xs t ≡ false) = or_neither (target_eq x t) (is_among xs t) h in
    (all_push xs x t d.0 both.0, distinct_push xs t both.1 d.1)

noted_once : (found : List Target) (t : Target) → IsDistinct target_eq found → IsDistinct target_eq (noted found t)
noted_once found t d = elim (noted_is found t) [ inl e ↦ rw (e.1) d | inr e ↦ rw (e.1) (distinct_push found t e.0 d) ]

-- targets that are noted in turn

pub all_old : (found ts : List Target) (u : Target) → In found u → In (noted_all found ts) u
all_old found [] u h = h
all_old found (t ∷ ts) u h = all_old (noted found t) ts u (noted_old found t u h)

pub all_new : (found ts : List Target) (u : Target) → In ts u → In (noted_all found ts) u
all_new found [] u h = cc
all_new found (t ∷ ts) u h =
    elim (or_cases (target_eq t u) (is_among ts u) h) [
      | inl e ↦ let P : Target → Type 0 = λ x. In (noted_all (noted found t) ts) x in subst P (target_eq_sound t u e) (all_old (noted found t) ts t (noted_new found t))
      | inr i ↦ all_new (noted found t) ts u i
    ]

pub all_from : (found ts : List Target) (u : Target) → In (noted_all found ts) u → In found u ⊎ In ts u
all_from found [] u h = inl h
all_from found (t ∷ ts) u h =
    elim (all_from (noted found t) ts u h) [
      | inl l ↦ elim (noted_from found t u l) [
        | inl o ↦ inl o
        | inr e ↦ let P : Target → Type 0 = λ x. In (t ∷ ts) x in inr (subst P e (or_first (target_eq t t) (is_among ts t) (target_eq_refl t)))
      ]
      | inr r ↦ inr (or_second (target_eq t u) (is_among ts u) r)
    ]

noted_length : (found : List Target) (t : Target) → length found ≤ length (noted found t)
noted_length found t = elim (noted_is found t) [ inl e ↦ rw (e.1) (omega arith) | inr e ↦ rw (e.1) (omega (arith, length-append found (t ∷ []))) ]

pub all_at : (found ts : List Target) (j : ℕ) (d : Target) → j < length found → get_or (noted_all found ts) j d ≡ get_or found j d
all_at found [] j d h = refl
all_at found (t ∷ ts) j d h = all_at (noted found t) ts j d (omega (arith, noted_length found t)) ∙ noted_at found t j d h

pub all_once : (found ts : List Target) → IsDistinct target_eq found → IsDistinct target_eq (noted_all found ts)
all_once found [] d = d
all_once found (t ∷ ts) d = all_once (noted found t) ts (noted_once found t d)

-- how many of some targets are not found
abbrev pub unseen : List Target → List Target → ℕ
unseen found [] = 0
unseen found (u ∷ us) = (if is_among found u then 0 else 1) + unseen found us

lower : (a b : Bool) → (a ≡ true → b ≡ true) → cond b 0 1 ≤ cond a 0 1
lower true b h = rw (h refl) (omega arith)
lower false true h = omega arith
lower false false h = omega arith

unseen_mono : (old new us : List Target) → ((u : Target) → In old u → In new u) → unseen new us ≤ unseen old us
unseen_mono old new [] h = omega arith
unseen_mono old new (u ∷ us) h = omega (arith, lower (is_among old u) (is_among new u) (h u), unseen_mono old new us h)

unseen_less : (old new us : List Target) (t : Target) → ((u : Target) → In old u → In new u) → is_among old t ≡ false → In new t → In us t → unseen new us + 1 ≤ unseen old us
unseen_less old new [] t h n y i = cc
unseen_less old new (u ∷ us) t h n y i =
    elim (or_cases (target_eq u t) (is_among us t) i) [
      | inl e ↦
          let same : u ≡ t = target_eq_sound u t e in
          let a : is_among old u ≡ false = rw same n in
          let b : is_among new u ≡ true = rw same y in
          rw (a, b) (omega (arith, unseen_mono old new us h))
      | inr j ↦ omega (arith, lower (is_among old u) (is_among new u) (h u), unseen_less old new us t h n y j)
    ]

noted_work : (found all : List Target) (t : Target) → In all t → unseen (noted found t) all + length (noted found t) ≤ unseen found all + length found
noted_work found all t i =
    elim (noted_is found t) [
      | inl e ↦ rw (e.1) (omega arith)
      | inr e ↦
          let less : unseen (found ++ t ∷ []) all + 1 ≤ unseen found all = unseen_less found (found ++ t ∷ []) all t (λ u h. in_first found (t ∷ []) u h) e.0 (in_second found (t ∷ []) t (in_one t)) i in
          rw (e.1) (omega (arith, less, length-append found (t ∷ [])))
    ]

pub all_work : (found ts all : List Target) → ((u : Target) → In ts u → In all u) → unseen (noted_all found ts) all + length (noted_all found ts) ≤ unseen found all + length found
all_work found [] all h = omega arith
all_work found (t ∷ ts) all h =
    omega (
      arith,
      noted_work found all t (h t (or_first (target_eq t t) (is_among ts t) (target_eq_refl t))),
      all_work (noted found t) ts all (λ u i. h u (or_second (target_eq t u) (is_among ts u) i)),
    )
