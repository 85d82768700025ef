-- Repeated readings: the bound on their number doesn't matter, and each one is a step of a loop.
use Rattle.std.proofs.Common.{◌≡◌, ℕ, zero, suc, ◌<◌, Bool, true, false, cond, List, [], ◌∷◌, ◌++◌, length, Option, Some, None, Result, Ok, Err, refl, sym, ap, ◌∙◌, append_assoc, arith}
use Rattle.std.proofs.lemmas.List.{append-nil}
use Rattle.bt_bib.specs.Spot.{Here}
use Rattle.bt_bib.specs.Stop.{Stop}
use Rattle.bt_bib.specs.Many.{many, all}
use Rattle.bt_bib.specs.inner.Cases.{many_by}
use Rattle.bt_bib.specs.inner.Many.{gathered}
use Rattle.bt_bib.proofs.ReachLemmas.{Advances, reaches_rest}

-- what comes next leaves fewer bytes
abbrev pub IsLess : {A : Type 0} → Here → Result (Option A × Here) Stop → Type 0
IsLess h (Ok (Some a, e)) = length e.rest < length h.rest
IsLess h (Ok (None, e)) = Unit {0}
IsLess h (Err stop) = Unit {0}

pub less_from : {A : Type 0} (h e : Here) (r : Result (Option A × Here) Stop) → length e.rest < length h.rest → Advances e r → IsLess h r
less_from h e (Ok (Some x, k)) lt a = omega (arith, reaches_rest e k a.ahead)
less_from h e (Ok (None, k)) lt a = tt
less_from h e (Err stop) lt a = tt

pub less_if : {A : Type 0} (h : Here) (b : Bool) (x y : Result (Option A × Here) Stop) → IsLess h x → IsLess h y → IsLess h (cond b x y)
less_if h true x y a b = a
less_if h false x y a b = b

by_same : {A : Type 0} (f g : Here → List A × Result Here Stop) (h : Here) (r : Result (Option A × Here) Stop) → IsLess h r → ((e : Here) → length e.rest < length h.rest → f e ≡ g e) → many_by f r ≡ many_by g r
by_same {A = A} f g h (Ok (Some a, e)) lt k = ap (λ (x : List A × Result Here Stop). (a ∷ x.0, x.1)) (k e lt)
by_same {A = A} f g h (Ok (None, e)) lt k = refl
by_same {A = A} f g h (Err stop) lt k = refl

pub many_same : {A : Type 0} (next : Here → Result (Option A × Here) Stop) → ((h : Here) → IsLess h (next h)) → (m n : ℕ) (h : Here) → length h.rest < m → length h.rest < n → many next m h ≡ many next n h
unfolding many
many_same next less zero n h a b = absurd (omega arith)
many_same next less (suc m) zero h a b = absurd (omega arith)
many_same next less (suc m) (suc n) h a b = by_same (many next m) (many next n) h (next h) (less h) (λ e lt. many_same next less m n e (omega arith) (omega arith))

-- all readings are the next one and all that come after it
pub all_is : {A : Type 0} (next : Here → Result (Option A × Here) Stop) → ((h : Here) → IsLess h (next h)) → (h : Here) → all next h ≡ many_by (all next) (next h)
unfolding many
all_is next less h = by_same (many next (length h.rest)) (all next) h (next h) (less h) (λ e lt. many_same next less (length h.rest) (suc (length e.rest)) e lt (omega arith))

pub gathers_more : {A : Type 0} (next : Here → Result (Option A × Here) Stop) → ((h : Here) → IsLess h (next h)) → (front : List A) (a : A) (h e : Here) → next h ≡ Ok (Some a, e) → gathered (front ++ a ∷ []) (all next e) ≡ gathered front (all next h)
gathers_more {A = A} next less front a h e is = sym (ap (gathered front) (all_is next less h ∙ ap (many_by (all next)) is) ∙ ap (λ (xs : List A). (xs, (all next e).1)) (sym (append_assoc front (a ∷ []) (all next e).0)))

pub gathers_none : {A : Type 0} (next : Here → Result (Option A × Here) Stop) → ((h : Here) → IsLess h (next h)) → (front : List A) (h e : Here) → next h ≡ Ok (None, e) → gathered front (all next h) ≡ (front, Ok e)
gathers_none {A = A} next less front h e is = ap (gathered front) (all_is next less h ∙ ap (many_by (all next)) is) ∙ ap (λ (xs : List A). (xs, Ok e)) (append-nil front)

pub gathers_err : {A : Type 0} (next : Here → Result (Option A × Here) Stop) → ((h : Here) → IsLess h (next h)) → (front : List A) (h : Here) (stop : Stop) → next h ≡ Err stop → gathered front (all next h) ≡ (front, Err stop)
gathers_err {A = A} next less front h stop is = ap (gathered front) (all_is next less h ∙ ap (many_by (all next)) is) ∙ ap (λ (xs : List A). (xs, Err stop)) (append-nil front)
