-- The list of names that are found is the set of those that are reached.
use Rattle.std.specs.Prelude.{slice_get, Contains}
use Rattle.std.proofs.Common.{◌≡◌, ◌↔◌, inl, inr, refl, sym, ap, ◌∙◌, subst, ℕ, zero, suc, ◌+◌, ◌≤◌, Bool, true, false, cond, List, [], ◌∷◌, length, Option, arith}
use Rattle.std.proofs.lemmas.Option.{slice_get_past, slice_get_cases}
use Rattle.bt_style.specs.declared.style.Target.{Target}
use Rattle.bt_style.specs.Program.{Program}
use Rattle.bt_style.specs.Reach.{is_among, noted_all, leads_to, Reaches, reachable}
use Rattle.bt_style.proofs.FoundLemmas.{unseen}
use Rattle.bt_style.proofs.SearchLemmas.{Searched, begun, searched_on, work, work_falls, finds_all}
use Rattle.bt_machine.specs.declared.input.Input.{Input}
use Rattle.bt_machine.specs.Step.{function_of}
use Rattle.bt_machine.specs.AgreementLaws.{IsFootprint}
use Rattle.bt_run.specs.Reached.{next_names, found_from, reach_of, names_in}

-- where all that was found was gone over, nothing more is found
rests : (p : Program) (f : Option ℕ) (rounds place : ℕ) (found : List Target) → length found ≤ place → found_from p f rounds place found ≡ found
rests p f zero place found h = refl
rests p f (suc rounds) place found h =
    ap (found_from p f rounds (place + 1)) (ap (λ (o : Option Target). noted_all found (next_names p f o)) (slice_get_past found place h))
    ∙ rests p f rounds (place + 1) found (omega (arith, h))

-- with enough rounds all that is reached is found
finds : (p : Program) (f : Option ℕ) (start : Target) (rounds place : ℕ) (found : List Target) → Searched p f start found place → work p f start found place ≤ rounds →
    (t : Target) → Contains (found_from p f rounds place found) t ↔ Reaches p f start t
finds p f start zero place found s h t = finds_all p f start found place s (omega (arith, h)) t
finds p f start (suc rounds) place found s h t =
    let P : List Target → Type 0 = λ ts. Contains ts t ↔ Reaches p f start t in
    elim (slice_get_cases found place).1 [
      | inl here ↦
          let next = noted_all found (leads_to p f here.0) in
          let e : noted_all found (next_names p f (slice_get found place)) ≡ next = ap (λ (o : Option Target). noted_all found (next_names p f o)) here.2 in
          subst P (ap (found_from p f rounds (place + 1)) (sym e))
          (finds p f start rounds (place + 1) next (searched_on p f start found next place here.0 s here.2 refl) (omega (arith, h, work_falls p f start found next place here.0 here.2 refl)) t)
      | inr past ↦ subst P (sym (rests p f (suc rounds) place found past.0)) (finds_all p f start found place s past.0 t)
    ]

one_at_most : (b : Bool) → cond b 0 1 ≤ 1
one_at_most true = omega arith
one_at_most false = omega arith

unseen_at_most : (found us : List Target) → unseen found us ≤ length us
unseen_at_most found [] = omega arith
unseen_at_most found (u ∷ us) = omega (arith, one_at_most (is_among found u), unseen_at_most found us)

pub reached : (p : Program) (f : Option ℕ) (start t : Target) → Contains (reach_of p f start) t ↔ Reaches p f start t
unfolding reach_of
reached p f start t =
    finds p f start (length (reachable p f start) + 1) 0 (start ∷ []) (begun p f start (start ∷ []) refl) (omega (arith, unseen_at_most (start ∷ []) (reachable p f start))) t

pub footprint_named : (p : Program) (i : Input) → IsFootprint p i (names_in p i)
footprint_named p i t = reached p (function_of i.entry) i.target t
