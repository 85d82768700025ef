-- Steps one after another, and what is known of the next one of an earlier run.
use Rattle.std.specs.Prelude.{Contains, slice_get, drop, slice_index_or, sum_by, ◌⊎◌}
use Rattle.std.specs.Option.{ForSome}
use Rattle.std.proofs.Common.{◌≡◌, sym, ap, ◌∙◌, subst, inl, inr, ℕ, zero, suc, ◌+◌, ◌<◌, List, [], ◌∷◌, ◌++◌, length, Option, Some, arith, add-one}
use Rattle.std.proofs.lemmas.List.{length-append}
use Rattle.std.proofs.lemmas.List.Sums.{sum_by-append, sum_by-cons}
use Rattle.std.proofs.lemmas.Option.{slice_get_within, get_or_from_slice_get}
use Rattle.bt_style.specs.declared.style.Target.{Target}
use Rattle.bt_actions.specs.World.{World}
use Rattle.bt_machine.specs.declared.input.Input.{Input}
use Rattle.bt_run.specs.declared.course.Step.{Step}
use Rattle.bt_run.specs.Course.{input_at}
use Rattle.bt_run.specs.Counts.{calls_at}
use Rattle.bt_run.specs.inner.Calls.{AreCalls, AreCallsFrom}
use Rattle.bt_run.specs.inner.Turn.{IsEntered, IsGiven, IsGivenAt, IsLeft, AreLeft, IsAfter, AreInTurn, IsSharedFrom}
use Rattle.bt_run.proofs.EarlierLemmas.{last_or}

-- A step more

after_or : (steps : List Step) (w : World) (s a b : Step) (n : ℕ) → AreInTurn steps → AreLeft steps w → IsGiven w s.input → (slice_get steps n ≡ Some a) ⊎ ((n ≡ length steps) × (s ≡ a)) → (slice_get steps (n + 1) ≡ Some b) ⊎ ((n + 1 ≡ length steps) × (s ≡ b)) → IsAfter a b
after_or steps w s a b n h left given (inl at) (inl next) = h n a b at next
after_or steps w s a b n h left given (inl at) (inr last) =
    let was : IsLeft w a = left n a at last.0 in
    subst (IsAfter a) last.1 (record { globals = given.globals ∙ sym was.globals; held = given.held ∙ sym was.held })
after_or steps w s a b n h left given (inr at) (inl next) = absurd (omega (arith, slice_get_within steps (n + 1) b next, at.0))
after_or steps w s a b n h left given (inr at) (inr last) = absurd (omega (arith, at.0, last.0))

pub in_turn_more : (steps : List Step) (w : World) (s : Step) → AreInTurn steps → AreLeft steps w → IsGiven w s.input → AreInTurn (steps ++ s ∷ [])
in_turn_more steps w s h left given = λ n a b at next. after_or steps w s a b n h left given (last_or steps s a n at) (last_or steps s b (n + 1) next)

left_or : (steps : List Step) (w : World) (s t : Step) (n : ℕ) → IsLeft w s → n + 1 ≡ length (steps ++ s ∷ []) → (slice_get steps n ≡ Some t) ⊎ ((n ≡ length steps) × (s ≡ t)) → IsLeft w t
left_or steps w s t n own end (inl at) = absurd (omega (arith, end, length-append steps (s ∷ []), slice_get_within steps n t at))
left_or steps w s t n own end (inr last) = subst (IsLeft w) last.1 own

pub left_more : (steps : List Step) (w : World) (s : Step) → IsLeft w s → AreLeft (steps ++ s ∷ []) w
left_more steps w s own = λ n t at end. left_or steps w s t n own end (last_or steps s t n at)

-- the step after one that was shared is given what that one left
pub given_next : (earlier : List Step) (w : World) (s : Step) (from next : ℕ) → AreInTurn earlier → IsSharedFrom earlier s from next → IsLeft w s → IsGivenAt earlier next w
given_next earlier w s from next h shared own = λ t at.
    let a : IsAfter s t = h from s t shared.at (subst (λ (n : ℕ). slice_get earlier n ≡ Some t) shared.on at) in
    record { globals = a.globals ∙ own.globals; held = a.held ∙ own.held }

-- an input is what a step is given, if each of its parts is
pub input_given : (i : Input) (t : Target) (x : Option ℕ) (w : World) → i.target ≡ t → IsEntered w x i → IsGiven w i → i ≡ input_at t x w
input_given i t x w target entered given = λ j. record { target = target j; entry = entered.entry j; globals = given.globals j; held = given.held j; preamble = entered.preamble j }

-- worlds of one globals and held line
pub given_alike : (steps : List Step) (n : ℕ) (w v : World) → v.globals ≡ w.globals → v.held ≡ w.held → IsGivenAt steps n w → IsGivenAt steps n v
given_alike steps n w v globals held h = λ s at.
    let given : IsGiven w s.input = h s at in
    record { globals = given.globals ∙ sym globals; held = given.held ∙ sym held }

pub left_alike : (steps : List Step) (w v : World) → v.globals ≡ w.globals → v.held ≡ w.held → AreLeft steps w → AreLeft steps v
left_alike steps w v globals held h = λ n s at end.
    let left : IsLeft w s = h n s at end in
    record { globals = left.globals ∙ sym globals; held = left.held ∙ sym held }

-- no steps

pub none_in_turn : (steps : List Step) → steps ≡ [] → AreInTurn steps
none_in_turn steps is = λ n s t at next. absurd (omega (arith, slice_get_within steps n s at, ap length is))

pub none_left : (steps : List Step) (w : World) → steps ≡ [] → AreLeft steps w
none_left steps w is = λ n s at end. absurd (omega (arith, slice_get_within steps n s at, ap length is))

-- the step at a place is among them
pub found_in : (steps : List Step) (n : ℕ) (s : Step) → slice_get steps n ≡ Some s → Contains steps s
found_in steps n s at = (n, slice_get_within steps n s at, get_or_from_slice_get steps n s s at)

-- Calls

drop_at : (n : ℕ) (xs : List Step) (s : Step) → slice_get xs n ≡ Some s → drop n xs ≡ s ∷ drop (suc n) xs
drop_at zero [] s h = absurd cc
drop_at (suc n) [] s h = absurd cc
drop_at zero (x ∷ xs) s h =
    let same : x ≡ s = cc in
    ap (λ (y : Step). y ∷ xs) same
drop_at (suc n) (x ∷ xs) s h = drop_at n xs s h

calls_more : (steps : List Step) (s : Step) (place : ℕ) → calls_at (steps ++ s ∷ []) place ≡ calls_at steps place + slice_index_or s.outcome.calls place 0
calls_more steps s place =
    let calls : Step → ℕ = λ t. slice_index_or t.outcome.calls place 0 in
    omega (arith, sum_by-append calls steps (s ∷ []), sum_by-cons calls s [])

calls_left : (earlier : List Step) (n : ℕ) (s : Step) (place : ℕ) → slice_get earlier n ≡ Some s → calls_at (drop n earlier) place ≡ slice_index_or s.outcome.calls place 0 + calls_at (drop (n + 1) earlier) place
calls_left earlier n s place at =
    let calls : Step → ℕ = λ t. slice_index_or t.outcome.calls place 0 in
    ap (sum_by calls) (drop_at n earlier s at ∙ ap (λ k. s ∷ drop k earlier) (sym (add-one n))) ∙ sum_by-cons calls s (drop (n + 1) earlier)

-- a step that was shared
pub calls_shared : (earlier steps : List Step) (s : Step) (from next : ℕ) (calls : List ℕ) → IsSharedFrom earlier s from next → AreCallsFrom earlier from steps calls → AreCallsFrom earlier next (steps ++ s ∷ []) calls
calls_shared earlier steps s from next calls shared are = λ place lt.
    let on : calls_at (drop next earlier) place ≡ calls_at (drop (from + 1) earlier) place = ap (λ n. calls_at (drop n earlier) place) shared.on in
    omega (arith, are place lt, calls_left earlier from s place shared.at, on, calls_more steps s place)

-- one that was made, in the place of none
pub calls_added : (earlier steps : List Step) (s : Step) (from next : ℕ) (old new : List ℕ) → next ≡ from → ((place : ℕ) → place < 37 → slice_index_or new place 0 ≡ slice_index_or old place 0 + slice_index_or s.outcome.calls place 0) → AreCallsFrom earlier from steps old → AreCallsFrom earlier next (steps ++ s ∷ []) new
calls_added earlier steps s from next old new is sums are = λ place lt.
    let on : calls_at (drop next earlier) place ≡ calls_at (drop from earlier) place = ap (λ n. calls_at (drop n earlier) place) is in
    omega (arith, are place lt, sums place lt, on, calls_more steps s place)

-- and in the place of an earlier one
pub calls_exchanged : (earlier steps : List Step) (s e : Step) (from next : ℕ) (old new : List ℕ) → slice_get earlier from ≡ Some e → next ≡ from + 1 → ((place : ℕ) → place < 37 → slice_index_or new place 0 + slice_index_or e.outcome.calls place 0 ≡ slice_index_or old place 0 + slice_index_or s.outcome.calls place 0) → AreCallsFrom earlier from steps old → AreCallsFrom earlier next (steps ++ s ∷ []) new
calls_exchanged earlier steps s e from next old new at is sums are = λ place lt.
    let on : calls_at (drop next earlier) place ≡ calls_at (drop (from + 1) earlier) place = ap (λ n. calls_at (drop n earlier) place) is in
    omega (arith, are place lt, sums place lt, on, calls_left earlier from e place at, calls_more steps s place)

-- an earlier one that was skipped
pub calls_skipped : (earlier steps : List Step) (e : Step) (at next : ℕ) (none old new : List ℕ) → slice_get earlier at ≡ Some e → next ≡ at + 1 → ((place : ℕ) → place < 37 → slice_index_or none place 0 ≡ 0) →
    ((place : ℕ) → place < 37 → slice_index_or new place 0 + slice_index_or e.outcome.calls place 0 ≡ slice_index_or old place 0 + slice_index_or none place 0) → AreCallsFrom earlier at steps old → AreCallsFrom earlier next steps new
calls_skipped earlier steps e at next none old new here is no_calls sums are = λ place lt.
    let on : calls_at (drop next earlier) place ≡ calls_at (drop (at + 1) earlier) place = ap (λ n. calls_at (drop n earlier) place) is in
    omega (arith, are place lt, no_calls place lt, sums place lt, on, calls_left earlier at e place here)

-- at the beginning
pub calls_begun : (earlier : List Step) (next : ℕ) (steps : List Step) (calls : Option (List ℕ)) → next ≡ 0 → steps ≡ [] → ForSome calls (AreCalls earlier) → ForSome calls (AreCallsFrom earlier next steps)
calls_begun earlier next steps calls first none are = λ c e place lt.
    let here : calls_at steps place ≡ 0 = ap (λ (ss : List Step). calls_at ss place) none in
    let all : calls_at (drop next earlier) place ≡ calls_at earlier place = ap (λ n. calls_at (drop n earlier) place) first in
    omega (arith, are c e place lt, here, all)
