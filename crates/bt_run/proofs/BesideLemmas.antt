-- A run with another entry in one place takes the steps that are beside those of the run as it was.
use Rattle.std.specs.Prelude.{slice_index_or, slice_set, bytes_eq, reverse, ◌-◌, if◌then◌else◌}
use Rattle.std.proofs.Common.{◌≡◌, ◌≢◌, refl, sym, ap, ◌∙◌, subst, inl, inr, ℕ, ◌<◌, Bool, true, false, List, [], ◌∷◌, ◌++◌, length, All, Option, Some, None, arith}
use Rattle.std.proofs.lemmas.Bool.{cases_eq}
use Rattle.std.proofs.lemmas.List.Elements.{All-head, All-tail}
use Rattle.std.proofs.lemmas.List.{append-nil, append_assoc, get_or-set_other, get_or-reverse, get_or-set_same, length-reverse, length-set, set-set, set_comm}
use Rattle.bt_style.specs.declared.style.Target.{Target}
use Rattle.bt_style.specs.declared.style.Command.{Command}
use Rattle.bt_style.specs.Program.{Program}
use Rattle.bt_actions.specs.declared.entry.Entry.{Entry}
use Rattle.bt_actions.specs.declared.entry.Variables.{Variables}
use Rattle.bt_actions.specs.World.{entry_in, no_entry}
use Rattle.bt_machine.specs.Step.{step_in}
use Rattle.bt_machine.specs.OwnEntry.{IsPlace, DependsOnInput}
use Rattle.bt_run.specs.declared.course.CommandPlace.{CommandPlace}
use Rattle.bt_run.specs.declared.course.Course.{Course}
use Rattle.bt_run.specs.declared.course.Step.{Step}
use Rattle.bt_run.specs.Commands.{commands_from, iterated}
use Rattle.bt_run.specs.Course.{Recorded, course_world, input_at, step_kept, stepped}
use Rattle.bt_run.specs.ReadCommand.{Job}
use Rattle.bt_run.specs.Work.{IsStep, own_left}
use Rattle.bt_run.specs.inner.Beside.{AreBeside, Difference, Fits, IsNewStep, beside, is_for, left}
use Rattle.bt_run.specs.inner.Cases.{all_told, unless_stopped}
use Rattle.bt_run.specs.inner.Course.{put_back, recorded, variables_back, with_variables}
use Rattle.bt_run.proofs.CourseLemmas.{length-variables_back, ordered_back, step_taken}
use Rattle.bt_run.proofs.EarlierLemmas.{fixed_back}
use Rattle.bt_run.proofs.OverLemmas.{commands_over, iterated_so}

abbrev pub app : List Step → Step → List Step
app steps s = steps ++ s ∷ []

keys_stay : (x : Option ℕ) (v : Option Variables) (es : List Entry) (m : ℕ) → (slice_index_or (variables_back x v es) m no_entry).key ≡ (slice_index_or es m no_entry).key
keys_stay x v es m = ap (λ (d : Entry). d.key) (fixed_back x v es m)

-- Two runs go on from a course, the second one beside the first: its steps are beside those of the first.
abbrev pub GoBeside : Program → ℕ → List ℕ → (Recorded (List Step) → Recorded (List Step)) → (Recorded (List Step) → Recorded (List Step)) → Course → Type 0
GoBeside p n key run other r =
    (o last : Difference) (seen us : List Step) → Fits n key r → AreBeside p key o (run (recorded r [])).seen us last →
    (other (recorded (beside n o r) seen) ≡ recorded (beside n last (run (recorded r [])).course) (seen ++ us))
    × Fits n key (run (recorded r [])).course

-- no step
pub none_beside : (p : Program) (n : ℕ) (key : List ℕ) (r : Course) (o last : Difference) (seen us : List Step) → Fits n key r → AreBeside p key o [] us last →
    (recorded (beside n o r) seen ≡ recorded (beside n last r) (seen ++ us)) × Fits n key r
none_beside p n key r o last seen [] f is =
    let run : recorded (beside n o r) seen ≡ recorded (beside n last r) (seen ++ []) = λ j. recorded (beside n (sym is j) r) (sym (append-nil seen) j) in
    (run, f)
none_beside p n key r o last seen (u ∷ us) f is = absurd is

-- A step for another entry that is given what it was given before is beside itself.
pub self_beside : (p : Program) (key : List ℕ) (o : Difference) (s : Step) → IsStep p s → is_for key s ≡ false → o.globals ≡ s.input.globals → o.held ≡ s.input.held →
    IsNewStep (is_for key s) p o s s × (left (is_for key s) o s ≡ record { entry = o.entry; globals = s.outcome.globals; held = s.outcome.held })
self_beside p key o s is other globals held =
    let same : IsNewStep false p o s s = record {
      is = is;
      command = refl;
      input = λ j. record s.input { globals = sym globals j; held = sym held j };
      left = record { stop = refl; messages = refl; variables = λ no. refl };
    }
    in
    (subst (λ (b : Bool). IsNewStep b p o s s) (sym other) same, ap (λ (b : Bool). left b o s) other)

module _ (p : Program) (law : DependsOnInput p) (site : CommandPlace) (t : Target) where
  -- the step that a run takes, and the run after it
  abbrev pub own_step : Option ℕ → Course → Step
  own_step x r =
      step_kept site.command (input_at t x (course_world r)) (own_left (step_in p (input_at t x (course_world r))))

  abbrev pub after : Option ℕ → Course → Course
  after x r = put_back site x (own_step x r).outcome r

  pub stepped_is : (x : Option ℕ) (r : Course) (seen : List Step) → IsPlace x (course_world r) → stepped app p site t x (recorded r seen) ≡ recorded (after x r) (app seen (own_step x r))
  stepped_is x r seen h =
      sym (step_taken app p law site t x r seen (app seen (own_step x r)) (after x r) (own_step x r) h refl refl (record { is = refl }) refl refl)

  -- the run after steps for these places, and these steps
  abbrev pub all_taken : List ℕ → Course → Recorded (List Step)
  all_taken places r = iterated app p site t places (recorded r [])

  pub taken_behind : (places : List ℕ) (r : Course) (seen : List Step) → iterated app p site t places (recorded r seen) ≡ recorded (all_taken places r).course (seen ++ (all_taken places r).seen)
  taken_behind places r seen =
      ap (λ (s : List Step). iterated app p site t places (recorded r s)) (sym (append-nil seen))
      ∙ iterated_so app app (λ (us : List Step). seen ++ us) (λ us s. append_assoc seen us (s ∷ [])) p site t places (recorded r [])

  -- a course has as many entries after a step
  pub below_after : (x : Option ℕ) (r : Course) (ms : List ℕ) → All (λ m. m < length r.entries) ms → All (λ m. m < length (after x r).entries) ms
  below_after x r ms h = subst (λ (c : ℕ). All (λ m. m < c) ms) (sym (length-variables_back x (own_step x r).outcome.variables r.entries)) h

  -- the new run's course, with the changed entry at a place
  module _ (n : ℕ) (key : List ℕ) where
    within : (es : List Entry) (m : ℕ) (e : Entry) → m < length es → m < length (slice_set es n e)
    within es m e lt = omega (arith, lt, length-set es n e)

    -- One step, given that its entry and the entries after it are those of the new run.
    taken_beside : (own : Bool) (x : Option ℕ) (r : Course) (o : Difference) (seen : List Step) (u : Step) → IsPlace x (course_world (beside n o r)) →
        (if own then Some o.entry else entry_in r.entries x) ≡ entry_in (slice_set r.entries n o.entry) x →
        slice_set (variables_back x (own_step x r).outcome.variables r.entries) n (left own o u).entry ≡ variables_back x u.outcome.variables (slice_set r.entries n o.entry) →
        IsNewStep own p o (own_step x r) u →
        stepped app p site t x (recorded (beside n o r) seen) ≡ recorded (beside n (left own o u) (after x r)) (app seen u)
    taken_beside own x r o seen u place entry entries h =
        let input : u.input ≡ input_at t x (course_world (beside n o r)) =
        h.input ∙ (λ j. record { target = t; entry = entry j; globals = o.globals; held = o.held; preamble = r.preamble })
        in
        let back : beside n (left own o u) (after x r) ≡ put_back site x u.outcome (beside n o r) =
        λ j. record r { entries = entries j; globals = u.outcome.globals; held = u.outcome.held; log = r.log ++ all_told site.line site.style (sym h.left.messages j); stopped = sym h.left.stop j }
        in
        sym (step_taken app p law site t x (beside n o r) seen (app seen u) (beside n (left own o u) (after x r)) u place h.command input h.is back refl)

    beside_other : (m : ℕ) (r : Course) (o : Difference) (seen : List Step) (u : Step) → m ≢ n → m < length r.entries → IsNewStep false p o (own_step (Some m) r) u →
        stepped app p site t (Some m) (recorded (beside n o r) seen) ≡ recorded (beside n (left false o u) (after (Some m) r)) (app seen u)
    beside_other m r o seen u other lt h =
        let s = own_step (Some m) r in
        let same = get_or-set_other r.entries n m o.entry no_entry other in
        let was = slice_index_or r.entries m no_entry in
        let entries : slice_set (variables_back (Some m) s.outcome.variables r.entries) n o.entry ≡ variables_back (Some m) u.outcome.variables (slice_set r.entries n o.entry) =
        ap (λ (v : Option Variables). slice_set (variables_back (Some m) v r.entries) n o.entry) (sym (h.left.variables refl))
        ∙ sym (set_comm r.entries n m o.entry (with_variables u.outcome.variables was) (λ is_m. other (sym is_m)))
        ∙ sym (ap (λ (d : Entry). slice_set (slice_set r.entries n o.entry) m (with_variables u.outcome.variables d)) same)
        in
        taken_beside false (Some m) r o seen u (within r.entries m o.entry lt) (ap (λ (d : Entry). Some d) (sym same)) entries h

    beside_own : (r : Course) (o : Difference) (seen : List Step) (u : Step) → n < length r.entries → IsNewStep true p o (own_step (Some n) r) u →
        stepped app p site t (Some n) (recorded (beside n o r) seen) ≡ recorded (beside n (left true o u) (after (Some n) r)) (app seen u)
    beside_own r o seen u lt h =
        let s = own_step (Some n) r in
        let here = get_or-set_same r.entries n o.entry no_entry lt in
        let now = with_variables u.outcome.variables o.entry in
        let entries : slice_set (variables_back (Some n) s.outcome.variables r.entries) n now ≡ variables_back (Some n) u.outcome.variables (slice_set r.entries n o.entry) =
        set-set r.entries n (with_variables s.outcome.variables (slice_index_or r.entries n no_entry)) now
        ∙ sym (ap (λ (d : Entry). slice_set (slice_set r.entries n o.entry) n (with_variables u.outcome.variables d)) here ∙ set-set r.entries n o.entry now)
        in
        taken_beside true (Some n) r o seen u (within r.entries n o.entry lt) (ap (λ (d : Entry). Some d) (sym here)) entries h

    fits_after : (x : Option ℕ) (r : Course) → Fits n key r → Fits n key (after x r)
    fits_after x r f =
        let v = (own_step x r).outcome.variables in
        let same : (m : ℕ) → bytes_eq (slice_index_or (variables_back x v r.entries) m no_entry).key key ≡ bytes_eq (slice_index_or r.entries m no_entry).key key =
        λ m. ap (λ (k : List ℕ). bytes_eq k key) (keys_stay x v r.entries m)
        in
        let count = length-variables_back x v r.entries in
        record {
          keyed = record {
            here = λ lt. same n ∙ f.keyed.here (omega (arith, lt, count));
            apart = λ m lt other. same m ∙ f.keyed.apart m (omega (arith, lt, count)) other;
          };
          ordered = ordered_back site x (own_step x r).outcome r (after x r) refl f.ordered;
        }

    -- what holds of a step for an entry at a place, or for none
    abbrev StepHolds : Course → Difference → List Step → Step → Option ℕ → Type 0
    StepHolds r o seen u x =
        IsPlace x (course_world r) → IsNewStep (is_for key (own_step x r)) p o (own_step x r) u →
        stepped app p site t x (recorded (beside n o r) seen) ≡ recorded (beside n (left (is_for key (own_step x r)) o u) (after x r)) (app seen u)

    holds_so : (own : Bool) (x : Option ℕ) (r : Course) (o : Difference) (seen : List Step) (u : Step) → is_for key (own_step x r) ≡ own →
        (IsNewStep own p o (own_step x r) u → stepped app p site t x (recorded (beside n o r) seen) ≡ recorded (beside n (left own o u) (after x r)) (app seen u)) →
        IsNewStep (is_for key (own_step x r)) p o (own_step x r) u →
        stepped app p site t x (recorded (beside n o r) seen) ≡ recorded (beside n (left (is_for key (own_step x r)) o u) (after x r)) (app seen u)
    holds_so own x r o seen u is h g =
        h (subst (λ (b : Bool). IsNewStep b p o (own_step x r) u) is g)
        ∙ ap (λ (b : Bool). recorded (beside n (left b o u) (after x r)) (app seen u)) (sym is)

    step_beside : (x : Option ℕ) (r : Course) (o : Difference) (seen : List Step) (u : Step) → Fits n key r → StepHolds r o seen u x
    step_beside None r o seen u f = λ lt h. taken_beside false None r o seen u tt refl refl h
    step_beside (Some m) r o seen u f = elim (cases_eq m n) [
      | inl same ↦
          subst (λ (k : ℕ). StepHolds r o seen u (Some k)) (sym same)
          (λ lt. holds_so true (Some n) r o seen u (f.keyed.here lt) (beside_own r o seen u lt))
      | inr other ↦ λ lt. holds_so false (Some m) r o seen u (f.keyed.apart m lt other) (beside_other m r o seen u other lt)
    ]

    -- a command's steps, one for each entry

    abbrev RunHolds : (Recorded (List Step) → Recorded (List Step)) → Course → Type 0
    RunHolds run r = GoBeside p n key run run r

    -- the first step, and those after it
    taken_next : (m : ℕ) (ms : List ℕ) (r : Course) → m < length r.entries → RunHolds (iterated app p site t ms) (after (Some m) r) →
        (o last : Difference) (seen us : List Step) → Fits n key r → AreBeside p key o (own_step (Some m) r ∷ (all_taken ms (after (Some m) r)).seen) us last →
        (iterated app p site t ms (stepped app p site t (Some m) (recorded (beside n o r) seen)) ≡ recorded (beside n last (all_taken ms (after (Some m) r)).course) (seen ++ us))
        × Fits n key (all_taken ms (after (Some m) r)).course
    taken_next m ms r lt rest o last seen [] f is = absurd is
    taken_next m ms r lt rest o last seen (u ∷ us) f is =
        let first = step_beside (Some m) r o seen u f lt is.0 in
        let others = rest (left (is_for key (own_step (Some m) r)) o u) last (app seen u) us (fits_after (Some m) r f) is.1 in
        let run =
        ap (iterated app p site t ms) first ∙ others.0
        ∙ ap (recorded (beside n last (all_taken ms (after (Some m) r)).course)) (append_assoc seen (u ∷ []) us)
        in
        (run, others.1)

    -- the same of a run whose steps are known
    known_run : (run : Recorded (List Step) → Recorded (List Step)) (r next : Course) (ss : List Step) → run (recorded r []) ≡ recorded next ss →
        ((o last : Difference) (seen us : List Step) → Fits n key r → AreBeside p key o ss us last → (run (recorded (beside n o r) seen) ≡ recorded (beside n last next) (seen ++ us)) × Fits n key next) →
        RunHolds run r
    known_run run r next ss is h = λ o last seen us f are.
        let so = h o last seen us f (subst (λ (q : Recorded (List Step)). AreBeside p key o q.seen us last) is are) in
        let there = so.0 ∙ ap (λ (q : Recorded (List Step)). recorded (beside n last q.course) (seen ++ us)) (sym is) in
        (there, subst (λ (q : Recorded (List Step)). Fits n key q.course) (sym is) so.1)

    taken_unless : (b : Bool) (m : ℕ) (ms : List ℕ) (r : Course) → m < length r.entries → RunHolds (iterated app p site t ms) r → RunHolds (iterated app p site t ms) (after (Some m) r) →
        RunHolds (λ (q : Recorded (List Step)). iterated app p site t ms (unless_stopped b q (stepped app p site t (Some m) q))) r
    taken_unless true m ms r lt same next = same
    taken_unless false m ms r lt same next =
        let next_run : Recorded (List Step) → Recorded (List Step) = λ q. iterated app p site t ms (stepped app p site t (Some m) q) in
        known_run next_run r (all_taken ms (after (Some m) r)).course (own_step (Some m) r ∷ (all_taken ms (after (Some m) r)).seen)
        (ap (iterated app p site t ms) (stepped_is (Some m) r [] lt) ∙ taken_behind ms (after (Some m) r) (own_step (Some m) r ∷ []))
        (taken_next m ms r lt next)

    pub all_beside : (places : List ℕ) (r : Course) → All (λ m. m < length r.entries) places → RunHolds (iterated app p site t places) r
    all_beside [] r below = λ o last seen us f is. none_beside p n key r o last seen us f is
    all_beside (m ∷ ms) r below =
        let lt = All-head (λ k. k < length r.entries) m ms below in
        let behind = All-tail (λ k. k < length r.entries) m ms below in
        taken_unless r.stopped m ms r lt (all_beside ms r behind) (all_beside ms (after (Some m) r) (below_after (Some m) r ms behind))

    -- one step for no entry

    one_taken : (r : Course) (o last : Difference) (seen us : List Step) → Fits n key r → AreBeside p key o (own_step None r ∷ []) us last →
        (stepped app p site t None (recorded (beside n o r) seen) ≡ recorded (beside n last (after None r)) (seen ++ us)) × Fits n key (after None r)
    one_taken r o last seen [] f is = absurd is
    one_taken r o last seen (u ∷ us) f is =
        let first = step_beside None r o seen u f tt is.0 in
        let rest = none_beside p n key (after None r) (left (is_for key (own_step None r)) o u) last (app seen u) us (fits_after None r f) is.1 in
        let run = first ∙ rest.0 ∙ ap (recorded (beside n last (after None r))) (append_assoc seen (u ∷ []) us) in
        (run, rest.1)

    pub one_beside : (r : Course) → RunHolds (stepped app p site t None) r
    one_beside r = known_run (stepped app p site t None) r (after None r) (own_step None r ∷ []) (stepped_is None r [] tt) (one_taken r)

-- Commands

pub all_reversed : (P : ℕ → Type 0) (ms : List ℕ) → All P ms → All P (reverse ms)
all_reversed P ms h k d lt =
    let count = length-reverse ms in
    subst P (sym (get_or-reverse ms k d (omega (arith, lt, count)))) (h (length ms - 1 - k) d (omega (arith, lt, count)))

-- steps beside two lists of steps, one after the other
pub record Parts (p : Program) (key : List ℕ) (o : Difference) (ss ts us : List Step) (last : Difference) : Type 0 where
  pub mid : Difference
  pub first : List Step
  pub second : List Step
  pub whole : us ≡ first ++ second
  pub before : AreBeside p key o ss first mid
  pub behind : AreBeside p key mid ts second last

pub parted : (p : Program) (key : List ℕ) (ss ts us : List Step) (o last : Difference) → AreBeside p key o (ss ++ ts) us last → Parts p key o ss ts us last
parted p key [] ts us o last is = record { mid = o; first = []; second = us; whole = refl; before = refl; behind = is }
parted p key (s ∷ ss) ts [] o last is = absurd is
parted p key (s ∷ ss) ts (u ∷ us) o last is =
    let rest = parted p key ss ts us (left (is_for key s) o u) last is.1 in
    record { mid = rest.mid; first = u ∷ rest.first; second = rest.second; whole = ap (λ (vs : List Step). u ∷ vs) rest.whole; before = (is.0, rest.before); behind = rest.behind }

-- and back
pub joined : (p : Program) (key : List ℕ) (ss ts us vs : List Step) (o mid last : Difference) → AreBeside p key o ss us mid → AreBeside p key mid ts vs last → AreBeside p key o (ss ++ ts) (us ++ vs) last
joined p key [] ts [] vs o mid last h g = subst (λ (m : Difference). AreBeside p key m ts vs last) h g
joined p key [] ts (u ∷ us) vs o mid last h g = absurd h
joined p key (s ∷ ss) ts [] vs o mid last h g = absurd h
joined p key (s ∷ ss) ts (u ∷ us) vs o mid last h g = (h.0, joined p key ss ts us vs (left (is_for key s) o u) mid last h.1 g)

-- a run only adds to its steps
abbrev pub OnlyAdds : (Recorded (List Step) → Recorded (List Step)) → Course → Type 0
OnlyAdds run r =
    (ss : List Step) → run (recorded r ss) ≡ recorded (run (recorded r [])).course (ss ++ (run (recorded r [])).seen)

module _ (job : Job) where
  pub commands_add : (number : ℕ) (cs : List Command) (r : Course) → OnlyAdds (commands_from app job number cs) r
  commands_add number cs r = λ ss.
      ap (λ (us : List Step). commands_from app job number cs (recorded r us)) (sym (append-nil ss))
      ∙ commands_over app app (λ (us : List Step). ss ++ us) (λ us s. append_assoc ss us (s ∷ [])) job number cs (recorded r [])
