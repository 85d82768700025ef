-- Values of which some were replaced.
use Rattle.std.specs.Prelude.{slice_get, slice_set}
use Rattle.std.proofs.lemmas.Bool.Decides.{Decides-ltb}
use Rattle.std.proofs.lemmas.List.{set_past}
use Rattle.std.proofs.Common.{◌≡◌, ◌∙◌, ◌<◌, ◌≤◌, ap, refl, sym, arith, nat_lt, ℕ, zero, suc, Bool, true, false, List, [], ◌∷◌, length, drop, replicate, get_or, Option, Some, None}
use Rattle.bt_resolve.specs.inner.CurrentValues.{current, value_since}

abbrev Values : Type 0
Values = List (Option (List ℕ))

pub current_none : (vs : List Values) → current vs (replicate (length vs) None) ≡ vs
current_none [] = refl
current_none (v ∷ vs) = ap (λ (ws : List Values). v ∷ ws) (current_none vs)

current_at : (vs : List Values) (since : List (Option Values)) (p : ℕ) → length since ≡ length vs → get_or (current vs since) p [] ≡ value_since (get_or vs p []) (slice_get since p)
current_at [] [] p same = refl
current_at [] (s ∷ ss) p same = absurd (omega (arith, same))
current_at (v ∷ vs) [] p same = absurd (omega (arith, same))
current_at (v ∷ vs) (s ∷ ss) zero same = refl
current_at (v ∷ vs) (s ∷ ss) (suc p) same = current_at vs ss p (omega (arith, same))

pub current_set : (vs : List Values) (since : List (Option Values)) (p : ℕ) (new : Values) → length since ≡ length vs → current vs (slice_set since p (Some new)) ≡ slice_set (current vs since) p new
current_set [] [] p new same = refl
current_set [] (s ∷ ss) p new same = absurd (omega (arith, same))
current_set (v ∷ vs) [] p new same = absurd (omega (arith, same))
current_set (v ∷ vs) (s ∷ ss) zero new same = refl
current_set (v ∷ vs) (s ∷ ss) (suc p) new same = ap (λ (ws : List Values). value_since v (Some s) ∷ ws) (current_set vs ss p new (omega (arith, same)))

current_long : (vs : List Values) (since : List (Option Values)) → length (current vs since) ≡ length vs
current_long [] since = refl
current_long (v ∷ vs) since = ap suc (current_long vs (drop 1 since))

-- beyond the last entry nothing is replaced
pub current_past : (vs self : List Values) (since : List (Option Values)) (p : ℕ) (new : Values) → length since ≡ length vs → current vs since ≡ self → length since ≤ p → self ≡ slice_set self p new
current_past vs self since p new same is past =
    let long : length self ≡ length vs = sym (ap (λ (ws : List Values). length ws) is) ∙ current_long vs since in
    sym (set_past self p new (omega (arith, same, long, past)))

pub value_of : (vs self : List Values) (since : List (Option Values)) (p : ℕ) (o : Option (Option Values)) (v : Values) → length since ≡ length vs → current vs since ≡ self → slice_get since p ≡ o → v ≡ value_since (get_or vs p []) o → v ≡ get_or self p []
value_of vs self since p o v same is at value =
    value ∙ ap (value_since (get_or vs p [])) (sym at) ∙ sym (current_at vs since p same) ∙ ap (λ (ws : List Values). get_or ws p []) is

past_none : {A : Type 0} (xs : List A) (k : ℕ) → length xs ≤ k → slice_get xs k ≡ None
past_none [] k past = refl
past_none (x ∷ xs) zero past = absurd (omega (arith, past))
past_none (x ∷ xs) (suc k) past = past_none xs k (omega (arith, past))

pub none_past : {A : Type 0} (xs : List A) (k : ℕ) → false ≡ nat_lt k (length xs) → slice_get xs k ≡ None
none_past xs k past =
    let beyond : k < length xs → ⊥ = λ less. (let wrong : false ≡ true = past ∙ (Decides-ltb k (length xs)).1 less in cc) in
    past_none xs k (omega (arith, beyond))
