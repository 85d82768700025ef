-- The run beside another, step by step.
use Rattle.std.specs.Prelude.{◌==◌, bytes_eq, slice_get, slice_index_or, slice_set, if◌then◌else◌}
use Rattle.std.proofs.Common.{◌≡◌, ◌≢◌, refl, sym, ap, ◌∙◌, subst, inl, inr, ℕ, ◌+◌, ◌<◌, Bool, true, false, List, [], ◌∷◌, ◌++◌, length, drop, take, All, Some, None, arith}
use Rattle.std.proofs.lemmas.Bool.{cases_eq}
use Rattle.std.proofs.lemmas.Bool.Decides.{nat_tests}
use Rattle.std.proofs.lemmas.List.{get_or-drop, take_all}
use Rattle.std.proofs.lemmas.Option.{get_or_from_slice_get, slice_get_within, slice_get-get_or}
use Rattle.bt_style.specs.Program.{Program}
use Rattle.bt_log.specs.Log.{lines_bytes}
use Rattle.bt_actions.specs.declared.entry.Entry.{Entry}
use Rattle.bt_actions.specs.declared.entry.Variables.{Variables}
use Rattle.bt_actions.specs.World.{no_entry}
use Rattle.bt_machine.specs.declared.input.Input.{Input}
use Rattle.bt_run.specs.declared.course.Step.{Step}
use Rattle.bt_run.specs.declared.mark.Mark.{Mark}
use Rattle.bt_run.specs.declared.reuse.Reuse.{Reuse}
use Rattle.bt_run.specs.declared.walk.NewStep.{NewStep}
use Rattle.bt_run.specs.declared.walk.Walk.{Walk}
use Rattle.bt_run.specs.Work.{IsStep, total_cost, work_under}
use Rattle.bt_run.specs.inner.Beside.{AreUpTo, Difference, HasKey, IsCountedUpTo, IsGivenAlike, IsNewStep, MayLeave, given, is_for, left}
use Rattle.bt_run.specs.inner.Calls.{AreCalls}
use Rattle.bt_run.specs.inner.Course.{with_variables}
use Rattle.bt_run.specs.inner.Marks.{AreMarked}
use Rattle.bt_run.specs.inner.Turn.{AreInTurn}
use Rattle.bt_run.specs.inner.Walk.{AreNumbered, IsAgain, IsAt, IsNoted, IsPutAt, IsWalked, IsWalkedOut, given_to, with_steps}
use Rattle.bt_run.specs.inner.Work.{IsNext}
use Rattle.bt_run.proofs.BesideStepsLemmas.{all_upto, alike_next, calls_put, none_counted, none_upto, put_counted, put_upto, same_upto, step_at, stretch_counted}
use Rattle.bt_run.proofs.KeptBesideLemmas.{step_for}

-- Which steps are for the entry

same_test : (m n : ℕ) → m ≡ n → (m == n) ≡ true
same_test m n h = grind (arith, nat_tests, h)

other_test : (m n : ℕ) → m ≢ n → (m == n) ≡ false
other_test m n h = grind (arith, nat_tests, h)

pub own_place : (p : Program) (key : List ℕ) (entries : List Entry) (ss : List Step) (marks : List Mark) (k m n : ℕ) (s : Step) (mark : Mark) → All (IsStep p) ss → AreMarked entries ss marks → HasKey n key entries → slice_get marks k ≡ Some mark → mark.place ≡ Some m → slice_get ss k ≡ Some s → m < length entries → is_for key s ≡ (m == n)
own_place p key entries ss marks k m n s mark all marked keyed at placed here lt =
    let key_at : ℕ → List ℕ = λ i. (slice_index_or entries i no_entry).key in
    let for = step_for p key entries ss k m s mark all (marked.each k s mark here at) placed here in
    elim (cases_eq m n) [
      | inl same ↦
          for ∙ ap (λ i. bytes_eq (key_at i) key) same ∙ keyed.here (subst (λ i. i < length entries) same lt) ∙ sym (same_test m n same)
      | inr other ↦ for ∙ keyed.apart m lt other ∙ sym (other_test m n other)
    ]

-- Steps in the place of some

pub with_more : (ss : List Step) (os : List NewStep) (o : NewStep) → with_steps ss (os ++ o ∷ []) ≡ slice_set (with_steps ss os) o.number o.step
with_more ss [] o = refl
with_more ss (x ∷ os) o = with_more (slice_set ss x.number x.step) os o

-- the numbers of the steps that were made again

numbered_more : (from end : ℕ) (os : List NewStep) → AreNumbered from end os → AreNumbered from (end + 1) os
numbered_more from end [] h = omega (arith, h)
numbered_more from end (o ∷ os) h = (h.0, h.1, numbered_more (o.number + 1) end os h.2)

numbered_put : (from : ℕ) (os : List NewStep) (o : NewStep) → o.length ≡ length (lines_bytes o.step.outcome.lines) → AreNumbered from o.number os → AreNumbered from (o.number + 1) (os ++ o ∷ [])
numbered_put from [] o long h = (h, long, omega arith)
numbered_put from (x ∷ os) o long h = (h.0, h.1, numbered_put (x.number + 1) os o long h.2)

-- What the next step is given

given_if : (b own : Bool) (e : Entry) (g : Variables) (h : List ℕ) (now : Difference) (i : Input) → now.entry ≡ e → (b ≡ true → now.globals ≡ i.globals) → (b ≡ true → now.held ≡ i.held) → (b ≡ false → now.globals ≡ g) → (b ≡ false → now.held ≡ h) → (record i { entry = if own then Some e else i.entry; globals = if b then i.globals else g; held = if b then i.held else h }) ≡ given own now i
given_if true own e g h now i entry globals held other_globals other_held =
    λ j. record i { entry = if own then Some (sym entry j) else i.entry; globals = sym (globals refl) j; held = sym (held refl) j }
given_if false own e g h now i entry globals held other_globals other_held =
    λ j. record i { entry = if own then Some (sym entry j) else i.entry; globals = sym (other_globals refl) j; held = sym (other_held refl) j }

given_is : (own : Bool) (ss : List Step) (k : ℕ) (w : Walk) (now : Difference) (s : Step) → IsAt ss k w now → slice_get ss k ≡ Some s → given_to own w s.input ≡ given own now s.input
given_is own ss k w now s at here =
    given_if w.in_step own w.entry w.globals w.held now s.input at.entry (λ is. (at.alike is s here).globals) (λ is. (at.alike is s here).held) at.globals at.held

entry_left : (own : Bool) (now : Difference) (t : Step) (e : Entry) → now.entry ≡ e → (left own now t).entry ≡ (if own then with_variables t.outcome.variables e else e)
entry_left own now t e is = ap (λ (d : Entry). if own then with_variables t.outcome.variables d else d) is

module _ (p : Program) (key : List ℕ) (first : Difference) (ss : List Step) where
  -- no step yet
  pub walked_none : (w : Walk) → w.steps ≡ [] → w.entry ≡ first.entry → w.globals ≡ first.globals → w.held ≡ first.held → (w.in_step ≡ true → (s : Step) → slice_get ss 0 ≡ Some s → IsGivenAlike first s) → w.reuse.ran ≡ 0 → w.reuse.meter ≡ 0 → w.reuse.known ≡ [] → w.reuse.lookup.index ≡ None → AreCalls ss w.calls → IsWalked p key first ss 0 w
  walked_none w none entry globals held alike ran meter known index called =
      let same : with_steps ss w.steps ≡ ss = ap (with_steps ss) none in
      record {
        now = first;
        at = record { entry = sym entry; alike = alike; globals = λ out. sym globals; held = λ out. sym held };
        upto = subst (λ (us : List Step). AreUpTo p key first ss us 0 first) (sym same) (none_upto p key first ss);
        counted = none_counted p ss (with_steps ss w.steps) w.reuse ran meter known index;
        called = subst (λ (us : List Step). AreCalls us w.calls) (sym same) called;
        numbered = subst (AreNumbered 0 0) (sym none) (omega arith);
      }

  -- all steps
  pub walked_out : (w : Walk) → IsWalked p key first ss (length ss) w → IsWalkedOut p key first ss w
  walked_out w walked =
      let us = with_steps ss w.steps in
      let whole : take (length ss) us ≡ us = take_all (length ss) us (omega (arith, walked.upto.count)) in
      record {
        count = walked.upto.count;
        last = walked.now;
        entry = walked.at.entry;
        beside = all_upto p key first ss us (length ss) walked.now (omega arith) walked.upto;
        ran = walked.counted.ran ∙ ap (λ (xs : List Step). length (work_under p ss xs)) whole;
        ticks = walked.counted.ticks ∙ ap (λ (xs : List Step). total_cost (work_under p ss xs)) whole;
        fewer = walked.counted.fewer;
        calls = walked.called;
        numbered = walked.numbered;
      }

  -- what was found of SORT says nothing of the steps
  pub walked_to : (k last : ℕ) (w : Walk) → IsWalked p key first ss k w → IsWalked p key first ss k (record w { last_command = last })
  walked_to k last w walked = record {
    now = walked.now;
    at = record { entry = walked.at.entry; alike = walked.at.alike; globals = walked.at.globals; held = walked.at.held };
    upto = walked.upto;
    counted = walked.counted;
    called = walked.called;
    numbered = walked.numbered;
  }

  module _ (turn : AreInTurn ss) (k : ℕ) (s : Step) (here : slice_get ss k ≡ Some s) (w : Walk) (walked : IsWalked p key first ss k w) where
    abbrev us : List Step
    us = with_steps ss w.steps

    within : k < length us
    within = omega (arith, slice_get_within ss k s here, walked.upto.count)

    old_there : slice_get us k ≡ Some s
    old_there =
        let from : k + 0 ≡ k = omega arith in
        let get : (xs : List Step) → slice_index_or (drop k xs) 0 s ≡ slice_index_or xs k s =
        λ xs. get_or-drop k xs 0 s ∙ ap (λ (i : ℕ). slice_index_or xs i s) from
        in
        slice_get-get_or us k s within
        ∙ ap (λ (t : Step). Some t) (sym (get us) ∙ ap (λ (xs : List Step). slice_index_or xs 0 s) walked.upto.rest ∙ get ss ∙ get_or_from_slice_get ss k s s here)

    -- a step for another entry, which is given what it was given before
    pub walked_passed : All (IsStep p) ss → is_for key s ≡ false → w.in_step ≡ true → IsWalked p key first ss (k + 1) w
    walked_passed all other in_step =
        let now = walked.now in
        record {
          now = left false now s;
          at = record {
            entry = walked.at.entry;
            alike = λ is t next. alike_next ss k false now s t s turn here next refl refl;
            globals = λ out. absurd (cc (in_step, out));
            held = λ out. absurd (cc (in_step, out));
          };
          upto = same_upto p key first ss us k now s here (step_at p ss k s all here) other (walked.at.alike in_step s here) walked.upto;
          counted = stretch_counted p ss us k 1 w.reuse all walked.upto.count walked.upto.rest (omega (arith, slice_get_within ss k s here)) walked.counted;
          called = walked.called;
          numbered = numbered_more 0 k w.steps walked.numbered;
        }

    -- a step that is made again
    pub walked_made : (own : Bool) (t : Step) (r : Reuse) (v : Walk) → is_for key s ≡ own → IsAgain own w s t → IsNext p ss t w.reuse r → MayLeave own t.outcome s.outcome → IsNoted own k s t (record w { reuse = r }) v → IsWalked p key first ss (k + 1) v
    walked_made own t r v for again next may noted =
        let now = walked.now in
        let other : IsNewStep own p now s t = record {
          is = next.step;
          command = again.command;
          input = again.input ∙ given_is own ss k w now s walked.at here;
          left = may;
        } in
        let o : NewStep = record { number = k; step = t; length = noted.long } in
        let are : with_steps ss v.steps ≡ slice_set us k t = ap (with_steps ss) noted.steps ∙ with_more ss w.steps o in
        let upto : AreUpTo p key first ss (slice_set us k t) (k + 1) (left own now t) =
        subst (λ (b : Bool). AreUpTo p key first ss (slice_set us k t) (k + 1) (left b now t)) for
        (put_upto p key first ss us k now s t here walked.upto (subst (λ (b : Bool). IsNewStep b p now s t) (sym for) other))
        in
        record {
          now = left own now t;
          at = record {
            entry = entry_left own now t w.entry walked.at.entry ∙ sym noted.entry;
            alike = λ is u at_next. alike_next ss k own now s u t turn here at_next (noted.alike is).globals (noted.alike is).held;
            globals = λ out. sym (noted.globals out);
            held = λ out. sym (noted.held out);
          };
          upto = subst (λ (xs : List Step). AreUpTo p key first ss xs (k + 1) (left own now t)) (sym are) upto;
          counted = subst (λ (xs : List Step). IsCountedUpTo p ss xs (k + 1) v.reuse) (sym are)
              (subst (λ (q : Reuse). IsCountedUpTo p ss (slice_set us k t) (k + 1) q) (sym noted.reuse) (put_counted p ss us k t w.reuse r within next walked.counted));
          called = subst (λ (xs : List Step). AreCalls xs v.calls) (sym are) (calls_put us k s t w.calls v.calls old_there walked.called noted.calls);
          numbered = subst (AreNumbered 0 (k + 1)) (sym noted.steps) (numbered_put 0 w.steps o noted.lines walked.numbered);
        }

-- the steps of a walk after one of this number was put
pub put_steps : (ss : List Step) (k : ℕ) (w v : Walk) (put : IsPutAt k w v) → with_steps ss v.steps ≡ slice_set (with_steps ss w.steps) k put.other.step
put_steps ss k w v put =
    ap (with_steps ss) put.steps ∙ with_more ss w.steps put.other ∙ ap (λ (i : ℕ). slice_set (with_steps ss w.steps) i put.other.step) put.number

pub noted_put : (own : Bool) (k : ℕ) (s t : Step) (w : Walk) (r : Reuse) (v : Walk) → IsNoted own k s t (record w { reuse = r }) v → IsPutAt k w v
noted_put own k s t w r v noted =
    record { other = record { number = k; step = t; length = noted.long }; number = refl; steps = noted.steps; last = noted.last }
