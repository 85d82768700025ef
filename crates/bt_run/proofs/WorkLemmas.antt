-- What is taken over is what would have been carried out, and how it counts.
use Rattle.std.specs.Prelude.{◌==◌, ◌&&◌, not}
use Rattle.std.specs.List.{Contains}
use Rattle.std.specs.Option.{option_map, ForSome}
use Rattle.std.proofs.Common.{◌≡◌, refl, sym, ap, ◌∙◌, subst, ◌↔◌, inl, inr, ◌+◌, ◌≤◌, ℕ, Bool, true, false, List, [], ◌∷◌, ◌++◌, Option, Some, None, All, length, arith}
use Rattle.std.proofs.lemmas.Bool.{cases_Bool}
use Rattle.std.proofs.lemmas.Bool.Decides.{nat_tests}
use Rattle.std.proofs.lemmas.List.Elements.{filter-append}
use Rattle.std.proofs.lemmas.List.Folds.{list_any_at, list_any_none}
use Rattle.std.proofs.lemmas.List.Sums.{length-filter, count_by-le-length}
use Rattle.std.proofs.lemmas.Slice.Eq.{bytes_eq-Decides}
use Rattle.bt_style.specs.declared.style.Target.{Target}
use Rattle.bt_style.specs.Program.{Program}
use Rattle.bt_style.specs.Reach.{is_among, Reaches}
use Rattle.bt_style.proofs.FoundLemmas.{contained, among as found_among}
use Rattle.bt_actions.specs.declared.entry.Entry.{Entry}
use Rattle.bt_machine.specs.declared.input.Input.{Input}
use Rattle.bt_machine.specs.declared.outcome.Outcome.{Outcome}
use Rattle.bt_machine.specs.Step.{step_in, outcome_of, function_of}
use Rattle.bt_machine.specs.Footprint.{entry_over}
use Rattle.bt_machine.specs.AgreementLaws.{Agree, IsFootprint, AgreeingInputsSameStep}
use Rattle.bt_machine.specs.Agreement.{reach_by, agreement}
use Rattle.bt_machine.proofs.Agreeing.{itself}
use Rattle.bt_machine.proofs.Comparing.{compared_tells}
use Rattle.bt_run.specs.declared.course.Step.{Step}
use Rattle.bt_run.specs.declared.reuse.Reuse.{Reuse}
use Rattle.bt_run.specs.Reached.{names_in}
use Rattle.bt_run.specs.inner.Names.{IsIndex}
use Rattle.bt_run.specs.Work.{IsStep, same_key, agrees_with, was_done, work_under}
use Rattle.bt_run.specs.Course.{key_in}
use Rattle.bt_run.specs.inner.Work.{IsLike, IsKnown, step_now, IsCounted, IsNext}
use Rattle.bt_run.proofs.ReachedLemmas.{footprint_named}

-- Agreement

-- inputs that agree have one key
key_over : (keep : Target → Bool) (b e : Option Entry) → option_map (λ (d : Entry). d.key) (option_map (entry_over keep b) e) ≡ option_map (λ (d : Entry). d.key) e
key_over keep b None = refl
key_over keep None (Some e) = refl
key_over keep (Some d) (Some e) = refl

pub key_same : (keep : Target → Bool) (i j : Input) → Agree keep i j → key_in i ≡ key_in j
key_same keep i j agree = sym (key_over keep j.entry i.entry) ∙ ap key_in agree

-- there is one set of names that a step comes to
bool_same : (a b : Bool) → (a ≡ true → b ≡ true) → (b ≡ true → a ≡ true) → a ≡ b
bool_same true true f g = refl
bool_same false false f g = refl
bool_same true false f g = sym (f refl)
bool_same false true f g = g refl

same_names : (p : Program) (i : Input) (names others : List Target) → IsFootprint p i names → IsFootprint p i others → is_among names ≡ is_among others
same_names p i names others h g =
    λ j t. bool_same (is_among names t) (is_among others t)
    (λ e. found_among others t ((g t).1 ((h t).0 (contained names t e))))
    (λ e. found_among names t ((h t).1 ((g t).0 (contained others t e)))) j

-- a step of the earlier run is one of the style
pub step_of : (p : Program) (earlier : List Step) (s : Step) → All (IsStep p) earlier → Contains earlier s → IsStep p s
step_of p earlier s all among = subst (IsStep p) among.2 (all among.0 s among.1)

-- what it left is what its input gives
pub own_outcome : (p : Program) (s : Step) → IsStep p s → s.outcome ≡ outcome_of (step_in p s.input)
own_outcome p s own = ap (λ (t : Step). t.outcome) own.is

-- what is taken over costs what it cost
pub taken_cost : (p : Program) (names : List Target) (i : Input) (s : Step) (cost : ℕ) → AgreeingInputsSameStep p → IsFootprint p i names → IsStep p s → Agree (is_among names) s.input i → cost ≡ s.cost → cost ≡ (step_in p i).cost
taken_cost p names i s cost law reach own agree is =
    is ∙ ap (λ (t : Step). t.cost) own.is ∙ sym ((law names s.input i agree).1 reach).1

-- Whether an earlier run has a step

and_both : (a b c : Bool) → a ≡ true → b ≡ true → c ≡ true → (a && b && c) ≡ true
and_both a b c x y z = rw (x, y, z) refl

and_first : (a b c : Bool) → (a && b && c) ≡ true → a ≡ true
and_first true b c h = refl
and_first false b c h = h

and_last : (a b c : Bool) → (a && b && c) ≡ true → c ≡ true
and_last true true c h = h
and_last true false c h = absurd cc
and_last false b c h = absurd cc

same_number : (a b : ℕ) → a ≡ b → (a == b) ≡ true
same_number a b h = grind (arith, nat_tests)

pub number_same : (a b : ℕ) → (a == b) ≡ true → a ≡ b
number_same a b h = grind (arith, nat_tests)

key_itself : (k : Option (List ℕ)) → same_key k k ≡ true
key_itself None = refl
key_itself (Some k) = (bytes_eq-Decides k k).1 refl

same_keys : (k l : Option (List ℕ)) → k ≡ l → same_key k l ≡ true
same_keys k l e = subst (λ (m : Option (List ℕ)). same_key k m ≡ true) e (key_itself k)

agreed : (names : List Target) (i j : Input) → agreement (reach_by names) i j ≡ true ↔ Agree (is_among names) i j
agreed names i j = compared_tells (agreement (reach_by names) i j) (reach_by names) i j refl

like_same : (p : Program) (command : ℕ) (names : List Target) (i : Input) (s : Step) (o : Outcome) (cost : ℕ) → IsFootprint p i names → IsStep p s → IsLike command names i s → agrees_with p (step_now command i o cost) s ≡ true
unfolding agrees_with
like_same p command names i s o cost reach own like =
    let all = names_in p i in
    let agree = subst (λ (k : Target → Bool). Agree k s.input i) (same_names p i names all reach (footprint_named p i)) like.agree in
    and_both (s.command == command) (same_key s.key (key_in i)) (agreement (reach_by all) s.input i)
    (same_number s.command command like.of_command)
    (same_keys s.key (key_in i) (ap (λ (t : Step). t.key) own.is ∙ key_same (is_among names) s.input i like.agree))
    ((agreed all s.input i).1 agree)

same_like : (p : Program) (command : ℕ) (names : List Target) (i : Input) (s : Step) (o : Outcome) (cost : ℕ) → IsFootprint p i names → agrees_with p (step_now command i o cost) s ≡ true → IsLike command names i s
unfolding agrees_with
same_like p command names i s o cost reach h =
    let all = names_in p i in
    let agree = (agreed all s.input i).0 (and_last (s.command == command) (same_key s.key (key_in i)) (agreement (reach_by all) s.input i) h) in
    record {
      of_command = number_same s.command command (and_first (s.command == command) (same_key s.key (key_in i)) (agreement (reach_by all) s.input i) h);
      agree = subst (λ (k : Target → Bool). Agree k s.input i) (same_names p i all names (footprint_named p i) reach) agree;
    }

again : (p : Program) (earlier : List Step) (command : ℕ) (names : List Target) (i : Input) (s : Step) (o : Outcome) (cost : ℕ) → IsFootprint p i names → All (IsStep p) earlier → Contains earlier s → IsLike command names i s → was_done p earlier (step_now command i o cost) ≡ true
again p earlier command names i s o cost reach all among like =
    let t = step_now command i o cost in
    list_any_at (agrees_with p t) earlier among.0 s among.1
    (subst (λ (u : Step). agrees_with p t u ≡ true) (sym among.2) (like_same p command names i s o cost reach (step_of p earlier s all among) like))

not_same : (p : Program) (command : ℕ) (names : List Target) (i : Input) (s : Step) (o : Outcome) (cost : ℕ) → IsFootprint p i names → (IsLike command names i s → ⊥) → agrees_with p (step_now command i o cost) s ≡ false
not_same p command names i s o cost reach none =
    elim (cases_Bool (agrees_with p (step_now command i o cost) s)) [ inl y ↦ absurd (none (same_like p command names i s o cost reach y)) | inr n ↦ n ]

not_again : (p : Program) (earlier : List Step) (command : ℕ) (names : List Target) (i : Input) (o : Outcome) (cost : ℕ) → IsFootprint p i names → All (λ s. IsLike command names i s → ⊥) earlier → was_done p earlier (step_now command i o cost) ≡ false
not_again p earlier command names i o cost reach none =
    list_any_none (agrees_with p (step_now command i o cost)) earlier (λ k d lt. not_same p command names i _ o cost reach (none k d lt))

-- Work

work_again : (p : Program) (earlier : List Step) (t : Step) → was_done p earlier t ≡ true → work_under p earlier (t ∷ []) ≡ []
unfolding work_under
work_again p earlier t h = rw h refl

work_new : (p : Program) (earlier : List Step) (t : Step) → was_done p earlier t ≡ false → work_under p earlier (t ∷ []) ≡ t ∷ []
unfolding work_under
work_new p earlier t h = rw h refl

pub work_none : (p : Program) (earlier : List Step) → work_under p earlier [] ≡ []
unfolding work_under
work_none p earlier = refl

pub work_append : (p : Program) (earlier ts us : List Step) → work_under p earlier (ts ++ us) ≡ work_under p earlier ts ++ work_under p earlier us
unfolding work_under
work_append p earlier ts us = filter-append (λ t. not (was_done p earlier t)) ts us

-- a run that has no earlier one is all work
pub work_first : (p : Program) (ts : List Step) → work_under p [] ts ≡ ts
unfolding work_under
work_first p [] = refl
work_first p (t ∷ ts) = ap (λ us. t ∷ us) (work_first p ts)

pub work_fewer : (p : Program) (earlier ts : List Step) → length (work_under p earlier ts) ≤ length ts
unfolding work_under
work_fewer p earlier ts =
    let is_new : Step → Bool = λ t. not (was_done p earlier t) in
    omega (arith, length-filter is_new ts, count_by-le-length is_new ts)

-- How a step counts

pub taken_counted : (p : Program) (earlier : List Step) (command : ℕ) (names : List Target) (i : Input) (s : Step) (o : Outcome) (cost : ℕ) (before after : Reuse) → IsFootprint p i names → All (IsStep p) earlier → Contains earlier s → IsLike command names i s → after.ran ≡ before.ran → after.meter ≡ before.meter → IsCounted p earlier (step_now command i o cost) before after
taken_counted p earlier command names i s o cost before after reach all among like ran ticks =
    let none = work_again p earlier (step_now command i o cost) (again p earlier command names i s o cost reach all among like) in
    record { ran = rw none (omega (arith, ran)); ticks = rw none (omega (arith, ticks)) }

pub ran_counted : (p : Program) (earlier : List Step) (command : ℕ) (names : List Target) (i : Input) (o : Outcome) (cost : ℕ) (before after : Reuse) → IsFootprint p i names → All (λ s. IsLike command names i s → ⊥) earlier → after.ran ≡ before.ran + 1 → after.meter ≡ before.meter + cost → IsCounted p earlier (step_now command i o cost) before after
ran_counted p earlier command names i o cost before after reach none ran ticks =
    let one = work_new p earlier (step_now command i o cost) (not_again p earlier command names i o cost reach none) in
    record { ran = rw one (omega (arith, ran)); ticks = rw one (omega (arith, ticks)) }

-- an earlier step itself, met again
pub same_itself : (p : Program) (s : Step) → agrees_with p s s ≡ true
unfolding agrees_with
same_itself p s =
    let names = names_in p s.input in
    and_both (s.command == s.command) (same_key s.key s.key) (agreement (reach_by names) s.input s.input)
    (same_number s.command s.command refl) (key_itself s.key) ((agreed names s.input s.input).1 (itself (is_among names) s.input))

pub met_again : (p : Program) (earlier : List Step) (s : Step) (before after : Reuse) → All (IsStep p) earlier → Contains earlier s → All (IsKnown p) before.known → ForSome before.lookup.index (IsIndex earlier) → after ≡ record before { next = after.next } → IsNext p earlier s before after
met_again p earlier s before after all among known indexed is =
    let same = subst (λ (t : Step). agrees_with p s t ≡ true) (sym among.2) (same_itself p s) in
    let none = work_again p earlier s (list_any_at (agrees_with p s) earlier among.0 s among.1 same) in
    rw is (record {
      step = step_of p earlier s all among;
      counted = record { ran = rw none (omega arith); ticks = rw none (omega arith) };
      within = omega arith;
      known = known;
      indexed = indexed;
    })

pub footprint_of : (p : Program) (i : Input) (names : List Target) (f : Option ℕ) → f ≡ function_of i.entry → ((t : Target) → Contains names t ↔ Reaches p f i.target t) → IsFootprint p i names
footprint_of p i names f e h = subst (λ (g : Option ℕ). (t : Target) → Contains names t ↔ Reaches p g i.target t) e h
