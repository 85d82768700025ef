-- A search that goes over what it found, in its order, finds what is reached.
use Rattle.std.proofs.Common.{◌≡◌, ◌⊎◌, ◌↔◌, sym, subst, inl, inr, ℕ, zero, suc, ◌+◌, ◌-◌, ◌<◌, ◌≤◌, arith, Bool, true, false, cond, List, [], ◌∷◌, ◌++◌, length, get_or, Option, Some, None}
use Rattle.std.specs.Prelude.{slice_get, Contains}
use Rattle.std.specs.List.{IsDistinct}
use Rattle.std.specs.Option.{option_map_or}
use Rattle.bt_style.specs.declared.style.Target.{Target}
use Rattle.bt_style.specs.declared.style.Target.TheVariants as targets
use Rattle.bt_style.specs.Program.{Program, Definition}
use Rattle.bt_style.specs.Reach.{target_eq, noted_all, body_names, maybe_function, default_type, is_call_type, leads_to, Reaches, Start, Next, all_body_names, reachable}
use Rattle.bt_style.proofs.FoundLemmas.{In, in_first, in_second, in_one, placed, at_place, contained, among, all_old, all_new, all_from, all_at, all_once, all_work, unseen}

-- what is found, of which so many were gone over
pub record Searched (p : Program) (type_function : Option ℕ) (start : Target) (found : List Target) (place : ℕ) : Type 0 where
  pub starts : In found start
  pub sound : (t : Target) → In found t → Reaches p type_function start t
  pub closed : (j : ℕ) → j < place → (next : Target) → In (leads_to p type_function (get_or found j start)) next → In found next
  pub once : IsDistinct target_eq found

first_once : (t : Target) → IsDistinct target_eq (t ∷ [])
unfolding IsDistinct
first_once t = (tt, tt)

one_step : (x t d : Target) (j : ℕ) → j < 1 → get_or (x ∷ []) j d ≡ t → x ≡ t
one_step x t d zero h e = e
one_step x t d (suc j) h e = absurd (omega arith)

one_only : (x t : Target) → In (x ∷ []) t → x ≡ t
one_only x t h = let r = placed (x ∷ []) t t h in one_step x t t r.0 (omega (arith, r.1)) r.2

begun_at : (p : Program) (tf : Option ℕ) (start : Target) → Searched p tf start (start ∷ []) 0
begun_at p tf start = record {
  starts = in_one start;
  sound = λ t h. let P : Target → Type 0 = λ x. Reaches p tf start x in subst P (one_only start t h) Start;
  closed = λ j h next l. absurd (omega (arith, h));
  once = first_once start;
}

pub begun : (p : Program) (tf : Option ℕ) (start : Target) (found : List Target) → found ≡ start ∷ [] → Searched p tf start found 0
begun p tf start found e = let P : List Target → Type 0 = λ l. Searched p tf start l 0 in subst P (sym e) (begun_at p tf start)

closed_on : (p : Program) (tf : Option ℕ) (start : Target) (found : List Target) (place : ℕ) → Searched p tf start found place → place < length found →
    (j : ℕ) → (j < place) ⊎ (j ≡ place) → (next : Target) → In (leads_to p tf (get_or (noted_all found (leads_to p tf (get_or found place start))) j start)) next →
    In (noted_all found (leads_to p tf (get_or found place start))) next
closed_on p tf start found place s h j (inl below) next l =
    let ts = leads_to p tf (get_or found place start) in
    let within : j < length found = omega arith in
    let P : Target → Type 0 = λ x. In (leads_to p tf x) next in
    all_old found ts next (s.closed j below next (subst P (all_at found ts j start within) l))
closed_on p tf start found place s h j (inr same) next l =
    let ts = leads_to p tf (get_or found place start) in
    let Q : ℕ → Type 0 = λ n. In (leads_to p tf (get_or (noted_all found ts) n start)) next in
    let P : Target → Type 0 = λ x. In (leads_to p tf x) next in
    all_new found ts next (subst P (all_at found ts place start h) (subst Q same l))

below_or_at : (j n : ℕ) → j < n + 1 → (j < n) ⊎ (j ≡ n)
below_or_at j n h = grind arith

gone_on_at : (p : Program) (tf : Option ℕ) (start : Target) (found : List Target) (place : ℕ) → Searched p tf start found place → place < length found →
    Searched p tf start (noted_all found (leads_to p tf (get_or found place start))) (place + 1)
gone_on_at p tf start found place s h =
    let t = get_or found place start in
    let ts = leads_to p tf t in
    record {
      starts = all_old found ts start s.starts;
      sound = λ u i. elim (all_from found ts u i) [ inl o ↦ s.sound u o | inr n ↦ Next (s.sound t (at_place found place start h)) (contained ts u n) ];
      closed = λ j b next l. closed_on p tf start found place s h j (below_or_at j place b) next l;
      once = all_once found ts s.once;
    }

pub gone_on : (p : Program) (tf : Option ℕ) (start : Target) (found after : List Target) (place : ℕ) (t : Target) → Searched p tf start found place → place < length found →
    get_or found place start ≡ t → after ≡ noted_all found (leads_to p tf t) → Searched p tf start after (place + 1)
gone_on p tf start found after place t s h here e =
    let P : List Target → Type 0 = λ l. Searched p tf start l (place + 1) in
    let Q : Target → Type 0 = λ x. Searched p tf start (noted_all found (leads_to p tf x)) (place + 1) in
    subst P (sym e) (subst Q here (gone_on_at p tf start found place s h))

-- all that was found was gone over
complete : (p : Program) (tf : Option ℕ) (start : Target) (found : List Target) (place : ℕ) → Searched p tf start found place → length found ≤ place →
    (t : Target) → Reaches p tf start t → In found t
complete p tf start found place s h t Start = s.starts
complete p tf start found place s h t (Next {here = here} r l) =
    let at : (j : ℕ) × (j < length found) × (get_or found j start ≡ here) = placed found here start (complete p tf start found place s h here r) in
    let P : Target → Type 0 = λ x. In (leads_to p tf x) t in
    s.closed at.0 (omega (arith, at.1)) t (subst P (sym at.2) (among (leads_to p tf here) t l))

pub finds_all : (p : Program) (tf : Option ℕ) (start : Target) (found : List Target) (place : ℕ) → Searched p tf start found place → length found ≤ place →
    (t : Target) → Contains found t ↔ Reaches p tf start t
finds_all p tf start found place s h t = (λ c. s.sound t (among found t c), λ r. contained found t (complete p tf start found place s h t r))

-- what is reached at once may be reached at all

in_bodies : (fs : List Definition) (n : ℕ) (t : Target) → In (option_map_or (λ f. body_names f.body) (slice_get fs n) []) t → In (all_body_names fs) t
in_bodies [] n t h = h
in_bodies (f ∷ fs) zero t h = in_first (body_names f.body) (all_body_names fs) t h
in_bodies (f ∷ fs) (suc n) t h = in_second (body_names f.body) (all_body_names fs) t (in_bodies fs n t h)

in_types : (b : Bool) (ts us : List Target) (t : Target) → In (cond b ts []) t → In (ts ++ us) t
in_types true ts us t h = in_first ts us t h
in_types false ts us t h = cc

leads_within : (p : Program) (tf : Option ℕ) (start : Target) (t next : Target) → In (leads_to p tf t) next → In (reachable p tf start) next
leads_within p tf start (targets.Function n) next h =
    in_second (start ∷ []) ((maybe_function tf ++ maybe_function (default_type p)) ++ all_body_names p.functions) next
    (in_second (maybe_function tf ++ maybe_function (default_type p)) (all_body_names p.functions) next (in_bodies p.functions n next h))
leads_within p tf start (targets.Builtin b) next h =
    in_second (start ∷ []) ((maybe_function tf ++ maybe_function (default_type p)) ++ all_body_names p.functions) next
    (in_types (is_call_type b) (maybe_function tf ++ maybe_function (default_type p)) (all_body_names p.functions) next h)
leads_within p tf start t next h = cc

-- the work that is left
abbrev pub work : Program → Option ℕ → Target → List Target → ℕ → ℕ
work p tf start found place = (unseen found (reachable p tf start) + length found) - place

down : (x y n : ℕ) → x ≤ y → n < y → x - (n + 1) < y - n
down x y n h k = omega arith

under : (n d c : ℕ) → n < d → n < c + d
under n d c h = omega arith

less_work : (p : Program) (tf : Option ℕ) (start : Target) (found after : List Target) (place : ℕ) (t : Target) → place < length found → after ≡ noted_all found (leads_to p tf t) →
    work p tf start after (place + 1) < work p tf start found place
less_work p tf start found after place t h e =
    let P : List Target → Type 0 = λ l. work p tf start l (place + 1) < work p tf start found place in
    subst P (sym e)
    (down (unseen (noted_all found (leads_to p tf t)) (reachable p tf start) + length (noted_all found (leads_to p tf t))) (unseen found (reachable p tf start) + length found) place
    (all_work found (leads_to p tf t) (reachable p tf start) (leads_within p tf start t)) (under place (length found) (unseen found (reachable p tf start)) h))

-- the same by what stands at a place

got : (ts : List Target) (n : ℕ) (t d : Target) → slice_get ts n ≡ Some t → get_or ts n d ≡ t
got [] n t d h = cc
got (x ∷ ts) zero t d h = cc
got (x ∷ ts) (suc n) t d h = got ts n t d h

pub got_within : (ts : List Target) (n : ℕ) (t : Target) → slice_get ts n ≡ Some t → n < length ts
got_within [] n t h = cc
got_within (x ∷ ts) zero t h = omega arith
got_within (x ∷ ts) (suc n) t h = omega (arith, got_within ts n t h)

got_none : (ts : List Target) (n : ℕ) → slice_get ts n ≡ None → length ts ≤ n
got_none [] n h = omega arith
got_none (x ∷ ts) zero h = cc
got_none (x ∷ ts) (suc n) h = omega (arith, got_none ts n h)

pub searched_on : (p : Program) (tf : Option ℕ) (start : Target) (found after : List Target) (place : ℕ) (t : Target) → Searched p tf start found place →
    slice_get found place ≡ Some t → after ≡ noted_all found (leads_to p tf t) → Searched p tf start after (place + 1)
searched_on p tf start found after place t s h e = gone_on p tf start found after place t s (got_within found place t h) (got found place t start h) e

pub work_falls : (p : Program) (tf : Option ℕ) (start : Target) (found after : List Target) (place : ℕ) (t : Target) →
    slice_get found place ≡ Some t → after ≡ noted_all found (leads_to p tf t) → work p tf start after (place + 1) < work p tf start found place
work_falls p tf start found after place t h e = less_work p tf start found after place t (got_within found place t h) e

pub searched_all : (p : Program) (tf : Option ℕ) (start : Target) (found : List Target) (place : ℕ) → Searched p tf start found place → slice_get found place ≡ None →
    (t : Target) → Contains found t ↔ Reaches p tf start t
searched_all p tf start found place s h = finds_all p tf start found place s (got_none found place h)
