-- A step in the world of all entries, by its outcome on its input alone.
use Rattle.std.specs.Prelude.{slice_index_or, slice_set, IsTrue}
use Rattle.std.specs.Option.{ForSome}
use Rattle.std.proofs.Common.{zero, suc, ◌≡◌, refl, ℕ, ◌+◌, ◌<◌, Bool, List, [], ◌∷◌, ◌++◌, length, All, Option, Some, None, sym, ap, ◌∙◌, subst, arith}
use Rattle.std.proofs.lemmas.List.{get_or-set_same, set-set, length-set, length-append}
use Rattle.std.proofs.lemmas.List.Elements.{All-append}
use Rattle.std.proofs.lemmas.List.Sums.{sum_by-append}
use Rattle.bt_style.specs.declared.style.Target.{Target}
use Rattle.bt_style.specs.Program.{Program}
use Rattle.bt_actions.specs.declared.entry.Entry.{Entry}
use Rattle.bt_actions.specs.declared.entry.Variables.{Variables}
use Rattle.bt_actions.specs.World.{World, no_entry}
use Rattle.bt_machine.specs.declared.input.Input.{Input}
use Rattle.bt_machine.specs.declared.outcome.Outcome.{Outcome}
use Rattle.bt_machine.specs.Step.{Finish, step, step_in, first_variables, outcome_of, own}
use Rattle.bt_machine.specs.OwnEntry.{IsPlace, DependsOnInput, alone, cut, finish_back}
use Rattle.bt_run.specs.declared.course.Course.{Course}
use Rattle.bt_run.specs.declared.course.Step.{Step}
use Rattle.bt_run.specs.declared.course.CommandPlace.{CommandPlace}
use Rattle.bt_run.specs.declared.kept.Kept.{Kept}
use Rattle.bt_run.specs.declared.mark.Mark.{Mark}
use Rattle.bt_run.specs.declared.kept_steps.KeptSteps.{KeptSteps}
use Rattle.bt_run.specs.declared.reuse.Reuse.{Reuse}
use Rattle.bt_run.specs.Course.{Recorded, course_world, input_at, step_kept, left_by, stepped}
use Rattle.bt_run.specs.inner.Cases.{all_told}
use Rattle.bt_run.specs.inner.Course.{recorded, IsArranged, IsOrdered, given_up, with_variables, variables_back, put_back}
use Rattle.bt_run.specs.Work.{total_cost, work_under, IsStep, own_left}
use Rattle.bt_run.specs.inner.Found.{AreFoundBy}
use Rattle.bt_run.specs.inner.Calls.{AreCallsFrom}
use Rattle.bt_run.specs.inner.Earlier.{AreSame}
use Rattle.bt_run.specs.inner.Marks.{step_tag}
use Rattle.bt_run.specs.inner.Turn.{IsGiven, IsSharedFrom}
use Rattle.bt_run.specs.inner.Work.{IsNext, IsConsistent, IsWork}
use Rattle.bt_run.proofs.WorkLemmas.{work_append, work_fewer}
use Rattle.bt_run.proofs.EarlierLemmas.{found_back, same_back}
use Rattle.bt_run.proofs.TurnLemmas.{in_turn_more, left_more, given_next}
use Rattle.bt_run.proofs.MarkLemmas.{marked_more}

-- what a step leaves in the world of its entry alone, or of none
abbrev alone_left : Program → Target → Option ℕ → Course → Finish
alone_left p t x r = step p (alone x) t (cut x (course_world r))

-- what is left where the outcome of a step is put back
abbrev left_back : {S : Type 0} → (S → Step → S) → CommandPlace → Target → Option ℕ → Recorded S → Finish → Recorded S
left_back note site t x r f =
    recorded (put_back site x (outcome_of f) r.course) (note r.seen (step_kept site.command (input_at t x (course_world r.course)) (own_left f)))

-- the variables of the entry that stands alone
one_entry : (p : Program) → DependsOnInput p → (t : Target) (n : ℕ) (w : World) → first_variables (step p (Some 0) t (cut (Some n) w)).world.entries ≡ Some (slice_index_or (step p (Some 0) t (cut (Some n) w)).world.entries 0 no_entry).variables
one_entry p law t n w = ap (λ (f : Finish). first_variables f.world.entries) (law (Some 0) t (cut (Some n) w) (omega arith))

-- without an entry there are none
no_variables_left : (p : Program) → DependsOnInput p → (t : Target) (w : World) → first_variables (step p None t (cut None w)).world.entries ≡ None
no_variables_left p law t w = ap (λ (f : Finish). first_variables f.world.entries) (law None t (cut None w) tt)

-- what a step in the world of all entries left that was its own is what it leaves on its input
own_back : (p : Program) → DependsOnInput p → (t : Target) (n : ℕ) (r : Course) → n < length r.entries → own (Some n) (course_world r) (finish_back (Some n) (course_world r) (alone_left p t (Some n) r)) ≡ own_left (alone_left p t (Some n) r)
own_back p law t n r h =
    let f = alone_left p t (Some n) r in
    let e : Entry = record (slice_index_or r.entries n no_entry) { variables = (slice_index_or f.world.entries 0 no_entry).variables } in
    let variables = ap (λ (d : Entry). Some d.variables) (get_or-set_same r.entries n e no_entry h) ∙ sym (one_entry p law t n (course_world r)) in
    λ j. record { outcome = record { globals = f.world.globals; variables = variables j; held = f.world.held; lines = f.world.lines; messages = f.world.messages; stop = f.stopped; calls = f.calls }; cost = f.cost }

-- the same of a step without an entry
own_back_alone : (p : Program) → DependsOnInput p → (t : Target) (r : Course) → own None (course_world r) (finish_back None (course_world r) (alone_left p t None r)) ≡ own_left (alone_left p t None r)
own_back_alone p law t r =
    let f = alone_left p t None r in
    let variables = sym (no_variables_left p law t (course_world r)) in
    λ j. record { outcome = record { globals = f.world.globals; variables = variables j; held = f.world.held; lines = f.world.lines; messages = f.world.messages; stop = f.stopped; calls = f.calls }; cost = f.cost }

module _ {S : Type 0} (note : S → Step → S) (p : Program) (law : DependsOnInput p) (site : CommandPlace) (t : Target) where
  -- a step in the world of all entries puts back what it leaves on its input
  step_back : (x : Option ℕ) (r : Recorded S) → IsPlace x (course_world r.course) → stepped note p site t x r ≡ left_back note site t x r (step_in p (input_at t x (course_world r.course)))
  step_back None r h =
      let w = course_world r.course in
      let f = alone_left p t None r.course in
      let back : stepped note p site t None r ≡ left_by note site t None r (finish_back None w f) = ap (left_by note site t None r) (law None t w h) in
      let own_part = own_back_alone p law t r.course in
      back ∙ (λ j. recorded (record { entries = r.course.entries; order = r.course.order; globals = f.world.globals; preamble = r.course.preamble; held = f.world.held; log = r.course.log ++ all_told site.line site.style f.world.messages; stopped = f.stopped }) (note r.seen (step_kept site.command (input_at t None w) (own_part j))))
  step_back (Some n) r h =
      let w = course_world r.course in
      let f = alone_left p t (Some n) r.course in
      let back : stepped note p site t (Some n) r ≡ left_by note site t (Some n) r (finish_back (Some n) w f) = ap (left_by note site t (Some n) r) (law (Some n) t w h) in
      let entries = sym (one_entry p law t n w) in
      let own_part = own_back p law t n r.course h in
      back ∙ (λ j. recorded (record { entries = variables_back (Some n) (entries j) r.course.entries; order = r.course.order; globals = f.world.globals; preamble = r.course.preamble; held = f.world.held; log = r.course.log ++ all_told site.line site.style f.world.messages; stopped = f.stopped }) (note r.seen (step_kept site.command (input_at t (Some n) w) (own_part j))))

  -- The same for a step that was made or reused, with what was noted of it.
  pub step_taken : (x : Option ℕ) (r : Course) (seen after : S) (back : Course) (s : Step) → IsPlace x (course_world r) → s.command ≡ site.command → s.input ≡ input_at t x (course_world r) → IsStep p s → back ≡ put_back site x s.outcome r → after ≡ note seen s → recorded back after ≡ stepped note p site t x (recorded r seen)
  step_taken x r seen after back s h is_command is_input own is_back is_after =
      let i = input_at t x (course_world r) in
      let is_step : s ≡ step_kept site.command i (own_left (step_in p i)) =
      own.is ∙ (λ j. step_kept (is_command j) (is_input j) (own_left (step_in p (is_input j)))) in
      (λ j. recorded (is_back j) (is_after j)) ∙ ap (λ (u : Step). recorded (put_back site x u.outcome r) (note seen u)) is_step ∙ sym (step_back x (recorded r seen) h)

-- What a step leaves of what a run keeps to

-- there are as many entries as before
pub length-variables_back : (x : Option ℕ) (v : Option Variables) (entries : List Entry) → length (variables_back x v entries) ≡ length entries
length-variables_back None v entries = refl
length-variables_back (Some n) v entries = length-set entries n (with_variables v (slice_index_or entries n no_entry))

-- a place stays one when the run gives up variables
pub placed_given_up : (x : Option ℕ) (others : Variables) (r lending : Course) → lending ≡ given_up x others r → IsPlace x (course_world r) → IsPlace x (course_world lending)
placed_given_up None others r lending is h = tt
placed_given_up (Some n) others r lending is h =
    subst (λ (c : Course). n < length c.entries) (sym is) (omega (arith, h, length-variables_back (Some n) (Some others) r.entries))

-- variables put back over those that stood in for them
put_over : (es : List Entry) (n : ℕ) (others v : Variables) → n < length es → variables_back (Some n) (Some v) (variables_back (Some n) (Some others) es) ≡ variables_back (Some n) (Some v) es
put_over es n others v lt =
    let own = with_variables (Some others) (slice_index_or es n no_entry) in
    ap (λ (e : Entry). slice_set (slice_set es n own) n (with_variables (Some v) e)) (get_or-set_same es n own no_entry lt)
    ∙ set-set es n own (with_variables (Some v) own)

back_over : (es : List Entry) (n : ℕ) (others v : Variables) (left : Option Variables) → n < length es → left ≡ Some v → variables_back (Some n) left (variables_back (Some n) (Some others) es) ≡ variables_back (Some n) left es
back_over es n others v left lt is =
    ap (λ (o : Option Variables). variables_back (Some n) o (variables_back (Some n) (Some others) es)) is
    ∙ put_over es n others v lt
    ∙ sym (ap (λ (o : Option Variables). variables_back (Some n) o es) is)

-- What a step leaves comes in the place of what the run gave up.
pub back_over_given_up : (p : Program) → DependsOnInput p → (t : Target) (site : CommandPlace) (x : Option ℕ) (others : Variables) (o : Outcome) (i : Input) (r lending back : Course) → IsPlace x (course_world r) → i ≡ input_at t x (course_world r) → o.variables ≡ (outcome_of (step_in p i)).variables → lending ≡ given_up x others r → back ≡ put_back site x o lending → back ≡ put_back site x o r
back_over_given_up p law t site None others o i r lending back h is_input is_left is_lent is_back = is_back ∙ ap (put_back site None o) is_lent
back_over_given_up p law t site (Some n) others o i r lending back h is_input is_left is_lent is_back =
    let v = (slice_index_or (step p (Some 0) t (cut (Some n) (course_world r))).world.entries 0 no_entry).variables in
    let there : o.variables ≡ Some v =
    is_left ∙ ap (λ (i : Input). first_variables (step_in p i).world.entries) is_input ∙ one_entry p law t n (course_world r) in
    is_back ∙ ap (put_back site (Some n) o) is_lent
    ∙ ap (λ (es : List Entry). record r { entries = es; globals = o.globals; held = o.held; log = r.log ++ all_told site.line site.style o.messages; stopped = o.stop }) (back_over r.entries n others v o.variables h there)

pub length_back : (site : CommandPlace) (x : Option ℕ) (o : Outcome) (r back : Course) → back ≡ put_back site x o r → length back.entries ≡ length r.entries
length_back site x o r back is = ap (λ (c : Course). length c.entries) is ∙ length-variables_back x o.variables r.entries

pub ordered_back : (site : CommandPlace) (x : Option ℕ) (o : Outcome) (r back : Course) → back ≡ put_back site x o r → IsOrdered r → IsOrdered back
ordered_back site x o r back is h = rw is (subst (λ (n : ℕ). IsArranged n r.order) (sym (length-variables_back x o.variables r.entries)) h)

-- one more step of the style
all_one : {A : Type 0} (P : A → Type 0) (y : A) → P y → All P (y ∷ [])
all_one P y g zero d lt = g
all_one P y g (suc k) d lt = absurd (omega (arith, lt))

pub all_behind : {A : Type 0} (P : A → Type 0) (xs : List A) (y : A) → All P xs → P y → All P (xs ++ y ∷ [])
all_behind P xs y h g = All-append P xs (y ∷ []) h (all_one P y g)

-- a step adds its part to the work
work_behind : (p : Program) (earlier steps : List Step) (s : Step) (before after : Reuse) → IsWork p earlier steps before → IsNext p earlier s before after → IsWork p earlier (steps ++ s ∷ []) after
work_behind p earlier steps s before after h is_next =
    let cost : Step → ℕ = λ (u : Step). u.cost in
    let so_far = work_under p earlier steps in
    let more = work_under p earlier (s ∷ []) in
    let works = work_append p earlier steps (s ∷ []) in
    let longer = length-append steps (s ∷ []) in
    record {
      ran = is_next.counted.ran ∙ ap (λ n. n + length more) h.ran ∙ sym (ap length works ∙ length-append so_far more);
      ticks = is_next.counted.ticks ∙ ap (λ n. n + total_cost more) h.ticks ∙ sym (ap total_cost works ∙ sum_by-append cost so_far more);
      fewer = omega (arith, longer, h.fewer, is_next.counted.ran, work_fewer p earlier (s ∷ []));
      bounded = omega (arith, longer, h.bounded, is_next.within);
      true_steps = all_behind (IsStep p) steps s h.true_steps is_next.step;
      known = is_next.known;
      indexed = is_next.indexed;
    }

-- a step keeps what a run keeps to
pub consistent_behind : (p : Program) (earlier : Kept) (site : CommandPlace) (t : Target) (x : Option ℕ) (r back : Course) (s : Step) (tag : ℕ) (shared : Bool) (before next : KeptSteps) (steps : List Step) (marks : List Mark) (calls : Option (List ℕ)) → IsConsistent p earlier (course_world r) before → IsPlace x (course_world r) → s.input ≡ input_at t x (course_world r) → back ≡ put_back site x s.outcome r → next ≡ record before { reuse = next.reuse } → steps ≡ next.steps ++ s ∷ [] → marks ≡ next.marks ++ record { place = x; tag = tag } ∷ [] → tag ≡ step_tag s → (IsTrue shared → IsSharedFrom earlier.steps s before.reuse.next next.reuse.next) → ((ss : List Step) → ForSome next.calls (AreCallsFrom earlier.steps before.reuse.next ss) → ForSome calls (AreCallsFrom earlier.steps next.reuse.next (ss ++ s ∷ []))) → IsNext p earlier.steps s before.reuse next.reuse → IsConsistent p earlier (course_world back) (record next { steps = steps; marks = marks; in_step = shared; calls = calls })
consistent_behind p earlier site t x r back s tag shared before next steps marks calls h placed is_input is_back is_rest are_steps are_marks is_tag in_turn called is_next =
    let kept_steps : steps ≡ before.steps ++ s ∷ [] = are_steps ∙ ap (λ (k : KeptSteps). k.steps ++ s ∷ []) is_rest in
    let mark : Mark = record { place = x; tag = tag } in
    let kept_marks : marks ≡ before.marks ++ mark ∷ [] = are_marks ∙ ap (λ (k : KeptSteps). k.marks ++ mark ∷ []) is_rest in
    let kept_same = ap (λ (k : KeptSteps). k.same) is_rest in
    let kept_calls = ap (λ (k : KeptSteps). k.calls) is_rest in
    let given : IsGiven (course_world r) s.input = record { globals = ap (λ (i : Input). i.globals) is_input; held = ap (λ (i : Input). i.held) is_input } in
    let calls_now = called before.steps (subst (λ (o : Option (List ℕ)). ForSome o (AreCallsFrom earlier.steps before.reuse.next before.steps)) (sym kept_calls) h.called) in
    rw (kept_marks, kept_steps, is_back) (record {
      work = work_behind p earlier.steps before.steps s before.reuse next.reuse h.work is_next;
      marked = marked_more (course_world r) before.steps before.marks s t x s.outcome.variables tag h.marked is_input is_tag;
      same = subst (AreSame earlier.entries (variables_back x s.outcome.variables r.entries)) (sym kept_same) (same_back earlier.entries r.entries before.same x s.outcome.variables h.same);
      in_turn = in_turn_more before.steps (course_world r) s h.in_turn h.left given;
      left = left_more before.steps (course_world (put_back site x s.outcome r)) s (record { globals = refl; held = refl });
      given = λ go. given_next earlier.steps (course_world (put_back site x s.outcome r)) s before.reuse.next next.reuse.next earlier.in_turn (in_turn go) (record { globals = refl; held = refl });
      called = calls_now;
      found = subst (λ (k : KeptSteps). AreFoundBy k.is_own k.resolution (variables_back x s.outcome.variables r.entries)) (sym is_rest) (found_back before.is_own before.resolution r.entries x s.outcome.variables h.found);
      found_before = subst (λ (k : KeptSteps). AreFoundBy k.is_earlier k.resolution earlier.entries) (sym is_rest) h.found_before;
    })
