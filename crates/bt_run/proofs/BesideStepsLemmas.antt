-- The steps of a run beside another, put into the old steps one after another.
use Rattle.std.specs.Prelude.{Contains, slice_get, slice_index_or, slice_set}
use Rattle.std.proofs.Common.{◌≡◌, refl, sym, ap, ◌∙◌, subst, ℕ, zero, suc, ◌+◌, ◌<◌, ◌≤◌, Bool, false, List, [], ◌∷◌, ◌++◌, length, take, drop, All, Option, Some, None, arith}
use Rattle.std.proofs.lemmas.List.{drop-set-lt, get_or-drop, length-append, length-set, take-set-le, take_all, take_more, take_more_set}
use Rattle.std.proofs.lemmas.List.Sums.{sum_by-append, sum_by-set}
use Rattle.std.specs.Option.{ForSome}
use Rattle.std.proofs.lemmas.Grind.{drop_more_same}
use Rattle.std.proofs.lemmas.Option.{get_or_from_slice_get, slice_get_within}
use Rattle.bt_style.specs.Program.{Program}
use Rattle.bt_run.specs.declared.course.Step.{Step}
use Rattle.bt_run.specs.declared.index.Index.{Index}
use Rattle.bt_run.specs.declared.reuse.Reuse.{Reuse}
use Rattle.bt_run.specs.Work.{IsStep, total_cost, work_under}
use Rattle.bt_run.specs.inner.Beside.{AreBeside, AreUpTo, Difference, IsCountedUpTo, IsGivenAlike, IsNewStep, is_for, left}
use Rattle.bt_run.specs.Counts.{calls_at}
use Rattle.bt_run.specs.inner.Calls.{AreCalls, AreExchanged}
use Rattle.bt_run.specs.inner.Names.{IsIndex}
use Rattle.bt_run.specs.inner.Turn.{AreInTurn}
use Rattle.bt_run.specs.inner.Work.{IsNext}
use Rattle.bt_run.proofs.BesideLemmas.{joined, self_beside}
use Rattle.bt_run.proofs.WorkLemmas.{met_again, work_append, work_fewer, work_none}

-- a list has an element at each place below its length
pub element : {X : Type 0} (xs : List X) (k : ℕ) → k < length xs → (x : X) × (slice_get xs k ≡ Some x)
element [] k lt = absurd (omega (arith, lt))
element (x ∷ xs) zero lt = (x, refl)
element (x ∷ xs) (suc k) lt = element xs k (omega (arith, lt))

pub step_at : (p : Program) (ss : List Step) (k : ℕ) (s : Step) → All (IsStep p) ss → slice_get ss k ≡ Some s → IsStep p s
step_at p ss k s all here = subst (IsStep p) (get_or_from_slice_get ss k s s here) (all k s (slice_get_within ss k s here))

-- one step more
pub beside_more : (p : Program) (key : List ℕ) (ss us : List Step) (o mid : Difference) (s u : Step) → AreBeside p key o ss us mid → IsNewStep (is_for key s) p mid s u → AreBeside p key o (ss ++ s ∷ []) (us ++ u ∷ []) (left (is_for key s) mid u)
beside_more p key ss us o mid s u h g =
    joined p key ss (s ∷ []) us (u ∷ []) o mid (left (is_for key s) mid u) h (g, refl)

-- After a step that leaves what the old one left, the next step is given what it was given before.
pub alike_next : (ss : List Step) (k : ℕ) (own : Bool) (now : Difference) (s t u : Step) → AreInTurn ss → slice_get ss k ≡ Some s → slice_get ss (k + 1) ≡ Some t → u.outcome.globals ≡ s.outcome.globals → u.outcome.held ≡ s.outcome.held → IsGivenAlike (left own now u) t
alike_next ss k own now s t u turn at next globals held =
    let after = turn k s t at next in
    record { globals = globals ∙ sym after.globals; held = held ∙ sym after.held }

module _ (p : Program) (key : List ℕ) (first : Difference) (ss : List Step) where
  -- no step yet
  pub none_upto : AreUpTo p key first ss ss 0 first
  none_upto = record { count = refl; beside = refl; rest = refl }

  -- all steps
  pub all_upto : (us : List Step) (k : ℕ) (now : Difference) → length ss ≤ k → AreUpTo p key first ss us k now → AreBeside p key first ss us now
  all_upto us k now past h =
      subst (λ (vs : List Step). AreBeside p key first vs us now) (take_all k ss past)
      (subst (λ (vs : List Step). AreBeside p key first (take k ss) vs now) (take_all k us (omega (arith, past, h.count))) h.beside)

  more : (us vs : List Step) (k : ℕ) (now : Difference) (s u : Step) → slice_get ss k ≡ Some s → AreUpTo p key first ss us k now → IsNewStep (is_for key s) p now s u → length vs ≡ length ss → take (k + 1) vs ≡ take k us ++ u ∷ [] → drop (k + 1) vs ≡ drop (k + 1) ss → AreUpTo p key first ss vs (k + 1) (left (is_for key s) now u)
  more us vs k now s u at h other counted taken dropped =
      let olds : take (k + 1) ss ≡ take k ss ++ s ∷ [] =
      take_more ss k s (slice_get_within ss k s at) ∙ ap (λ (t : Step). take k ss ++ t ∷ []) (get_or_from_slice_get ss k s s at)
      in
      let both = beside_more p key (take k ss) (take k us) first now s u h.beside other in
      record {
        count = counted;
        beside = subst (λ (xs : List Step). AreBeside p key first xs (take (k + 1) vs) (left (is_for key s) now u)) (sym olds)
            (subst (λ (xs : List Step). AreBeside p key first (take k ss ++ s ∷ []) xs (left (is_for key s) now u)) (sym taken) both);
        rest = dropped;
      }

  -- a step that is put in the place of an old one
  pub put_upto : (us : List Step) (k : ℕ) (now : Difference) (s u : Step) → slice_get ss k ≡ Some s → AreUpTo p key first ss us k now → IsNewStep (is_for key s) p now s u → AreUpTo p key first ss (slice_set us k u) (k + 1) (left (is_for key s) now u)
  put_upto us k now s u at h other =
      let within : k < length us = omega (arith, slice_get_within ss k s at, h.count) in
      more us (slice_set us k u) k now s u at h other (length-set us k u ∙ h.count) (take_more_set us k u within)
      (drop-set-lt (k + 1) us k u (omega arith) ∙ drop_more_same us ss k h.rest)

  -- a step that is given what it was given before
  pub same_upto : (us : List Step) (k : ℕ) (now : Difference) (s : Step) → slice_get ss k ≡ Some s → IsStep p s → is_for key s ≡ false → IsGivenAlike now s → AreUpTo p key first ss us k now → AreUpTo p key first ss us (k + 1) (left false now s)
  same_upto us k now s at is other alike h =
      let within : k < length us = omega (arith, slice_get_within ss k s at, h.count) in
      let here : k + 0 ≡ k = omega arith in
      let get : (xs : List Step) → slice_index_or (drop k xs) 0 s ≡ slice_index_or xs k s =
      λ xs. get_or-drop k xs 0 s ∙ ap (λ (i : ℕ). slice_index_or xs i s) here
      in
      let there : slice_index_or us k s ≡ s =
      sym (get us) ∙ ap (λ (xs : List Step). slice_index_or xs 0 s) h.rest ∙ get ss ∙ get_or_from_slice_get ss k s s at
      in
      let taken : take (k + 1) us ≡ take k us ++ s ∷ [] = take_more us k s within ∙ ap (λ (t : Step). take k us ++ t ∷ []) there in
      let own = self_beside p key now s is other alike.globals alike.held in
      subst (AreUpTo p key first ss us (k + 1)) (ap (λ (b : Bool). left b now s) other)
      (more us us k now s s at h own.0 h.count taken (drop_more_same us ss k h.rest))

-- A later step changes nothing of what is beside up to a number.
pub early_put : (p : Program) (key : List ℕ) (o now : Difference) (ss us : List Step) (j k : ℕ) (u : Step) → j ≤ k → AreBeside p key o (take j ss) (take j us) now → AreBeside p key o (take j ss) (take j (slice_set us k u)) now
early_put p key o now ss us j k u le is =
    subst (λ (vs : List Step). AreBeside p key o (take j ss) vs now) (sym (take-set-le j us k u le)) is

-- What is counted

module _ (p : Program) (ss : List Step) where
  pub none_counted : (us : List Step) (r : Reuse) → r.ran ≡ 0 → r.meter ≡ 0 → r.known ≡ [] → r.lookup.index ≡ None → IsCountedUpTo p ss us 0 r
  none_counted us r ran meter known index = record {
    ran = ran ∙ sym (ap length (work_none p ss));
    ticks = meter ∙ sym (ap total_cost (work_none p ss));
    fewer = omega (arith, ran);
    bounded = omega (arith, meter);
    known = rw known (λ k d lt. absurd (omega (arith, lt)));
    indexed = subst (λ (i : Option Index). ForSome i (IsIndex ss)) (sym index) (λ i is_some. absurd cc);
  }

  more_counted : (us vs : List Step) (k : ℕ) (u : Step) (now next : Reuse) → take (k + 1) vs ≡ take k us ++ u ∷ [] → IsNext p ss u now next → IsCountedUpTo p ss us k now → IsCountedUpTo p ss vs (k + 1) next
  more_counted us vs k u now next taken counted h =
      let so_far = work_under p ss (take k us) in
      let one = work_under p ss (u ∷ []) in
      let cost : Step → ℕ = λ (s : Step). s.cost in
      let all : work_under p ss (take (k + 1) vs) ≡ so_far ++ one = ap (work_under p ss) taken ∙ work_append p ss (take k us) (u ∷ []) in
      record {
        ran = counted.counted.ran ∙ ap (λ i. i + length one) h.ran ∙ sym (ap length all ∙ length-append so_far one);
        ticks = counted.counted.ticks ∙ ap (λ i. i + total_cost one) h.ticks ∙ sym (ap total_cost all ∙ sum_by-append cost so_far one);
        fewer = omega (arith, h.fewer, counted.counted.ran, work_fewer p ss (u ∷ []));
        bounded = omega (arith, h.bounded, counted.within);
        known = counted.known;
        indexed = counted.indexed;
      }

  -- a step in the place of an old one
  pub put_counted : (us : List Step) (k : ℕ) (u : Step) (now next : Reuse) → k < length us → IsNext p ss u now next → IsCountedUpTo p ss us k now → IsCountedUpTo p ss (slice_set us k u) (k + 1) next
  put_counted us k u now next within counted h =
      more_counted us (slice_set us k u) k u now next (take_more_set us k u within) counted h

  -- old steps
  pub stretch_counted : (us : List Step) (k c : ℕ) (r : Reuse) → All (IsStep p) ss → length us ≡ length ss → drop k us ≡ drop k ss → k + c ≤ length ss → IsCountedUpTo p ss us k r → IsCountedUpTo p ss us (k + c) r
  stretch_counted us k zero r all count rest within h =
      let same : k ≡ k + 0 = omega arith in
      subst (λ (i : ℕ). IsCountedUpTo p ss us i r) same h
  stretch_counted us k (suc c) r all count rest within h =
      let s = element ss k (omega (arith, within)) in
      let here : k + 0 ≡ k = omega arith in
      let get : (xs : List Step) → slice_index_or (drop k xs) 0 s.0 ≡ slice_index_or xs k s.0 =
      λ xs. get_or-drop k xs 0 s.0 ∙ ap (λ (i : ℕ). slice_index_or xs i s.0) here
      in
      let there : slice_index_or us k s.0 ≡ s.0 =
      sym (get us) ∙ ap (λ (xs : List Step). slice_index_or xs 0 s.0) rest ∙ get ss ∙ get_or_from_slice_get ss k s.0 s.0 s.1
      in
      let taken : take (k + 1) us ≡ take k us ++ s.0 ∷ [] = take_more us k s.0 (omega (arith, within, count)) ∙ ap (λ (t : Step). take k us ++ t ∷ []) there in
      let among : Contains ss s.0 = (k, slice_get_within ss k s.0 s.1, get_or_from_slice_get ss k s.0 s.0 s.1) in
      let one = more_counted us us k s.0 r r taken (met_again p ss s.0 r r all among h.known h.indexed refl) h in
      let same : k + 1 + c ≡ k + suc c = omega arith in
      subst (λ (i : ℕ). IsCountedUpTo p ss us i r) same
      (stretch_counted us (k + 1) c r all count (drop_more_same us ss k rest) (omega (arith, within)) one)

-- the sums of calls
pub calls_put : (us : List Step) (k : ℕ) (s u : Step) (before after : List ℕ) → slice_get us k ≡ Some s → AreCalls us before → AreExchanged before after s.outcome.calls u.outcome.calls → AreCalls (slice_set us k u) after
calls_put us k s u before after at are exchanged = λ place lt.
    let calls : Step → ℕ = λ (t : Step). slice_index_or t.outcome.calls place 0 in
    let old : slice_index_or us k s ≡ s = get_or_from_slice_get us k s s at in
    let all : calls_at (slice_set us k u) place + calls (slice_index_or us k s) ≡ calls_at us place + calls u = sum_by-set calls us k u s (slice_get_within us k s at) in
    omega (arith, all, ap calls old, are place lt, exchanged place lt)
