-- The whole run over files in which READ finds one entry changed.
use Rattle.std.specs.Prelude.{slice_set, reverse}
use Rattle.std.specs.List.{range_with_len}
use Rattle.std.proofs.Common.{◌≡◌, refl, sym, ap, ◌∙◌, subst, ℕ, suc, ◌+◌, Bool, true, false, List, [], ◌∷◌, ◌++◌, length, map, None, arith}
use Rattle.std.proofs.lemmas.List.Elements.{All-head, All-tail}
use Rattle.std.proofs.lemmas.List.{length-set, map-set}
use Rattle.bt_style.specs.declared.style.Action.{Action}
use Rattle.bt_style.specs.declared.style.Action.TheVariants.{Entry as Entries, Execute, Function, Integers, Iterate, Macro, Read, Reverse, Sort, Strings}
use Rattle.bt_style.specs.declared.style.Command.{Command}
use Rattle.bt_style.specs.declared.style.Target.{Target}
use Rattle.bt_style.specs.Program.{Program}
use Rattle.bt_actions.specs.declared.entry.Entry.{Entry}
use Rattle.bt_machine.specs.Step.{step_in}
use Rattle.bt_machine.specs.OwnEntry.{DependsOnInput}
use Rattle.bt_resolve.specs.declared.entry.Entry.{Entry as FoundEntry}
use Rattle.bt_resolve.specs.declared.entry.Resolved.{Resolved}
use Rattle.bt_job.specs.declared.files.File.{File}
use Rattle.bt_run.specs.declared.course.Course.{Course}
use Rattle.bt_run.specs.declared.course.Step.{Step}
use Rattle.bt_run.specs.Commands.{carried_out, commands_from, iterated}
use Rattle.bt_run.specs.Course.{Recorded, step_kept}
use Rattle.bt_run.specs.ReadCommand.{Job, found_for, list_order, read, with_blank_variables}
use Rattle.bt_run.specs.SortCommand.{key_at, sorted}
use Rattle.bt_run.specs.Work.{own_left}
use Rattle.bt_run.specs.inner.Beside.{AreBeside, AreSortsAlike, Difference, FindsChanged, Fits, begins_with, beside, left}
use Rattle.bt_run.specs.inner.WalkContext.{AreReadless, is_read}
use Rattle.bt_run.specs.inner.Cases.{all_read, command, read_in, site_of, sorted_run, unless_stopped}
use Rattle.bt_run.specs.inner.Course.{IsOrdered, recorded}
use Rattle.bt_run.proofs.BesideLemmas.{OnlyAdds, Parts, after, app, commands_add, own_step, parted, stepped_is}
use Rattle.bt_run.proofs.BesideSortsLemmas.{commands_beside, sorts_behind}
use Rattle.bt_run.proofs.OrderLemmas.{arranged_none, arranged_range}

-- Commands before READ

abbrev readless : Command → Type 0
readless c = is_read c.action ≡ false

-- they don't see the files
action_same : (job : Job) (files : List File) (number line : ℕ) (a : Action) → is_read a ≡ false → (q : Recorded (List Step)) → carried_out app (record job { files = files }) number line a q ≡ carried_out app job number line a q
action_same job files number line Entries other q = refl
action_same job files number line (Execute t) other q = refl
action_same job files number line (Function n) other q = refl
action_same job files number line Integers other q = refl
action_same job files number line (Iterate t) other q = refl
action_same job files number line (Macro n) other q = refl
action_same job files number line Read other q = absurd cc
action_same job files number line (Reverse t) other q = refl
action_same job files number line Sort other q = refl
action_same job files number line Strings other q = refl

front_same : (job : Job) (files : List File) (number : ℕ) (cs : List Command) → AreReadless cs → (q : Recorded (List Step)) → commands_from app (record job { files = files }) number cs q ≡ commands_from app job number cs q
front_same job files number [] less q = refl
front_same job files number (c ∷ cs) less q =
    ap (λ next. commands_from app (record job { files = files }) (suc number) cs (unless_stopped q.course.stopped q next)) (action_same job files number c.line c.action (All-head readless c cs less) q)
    ∙ front_same job files (suc number) cs (All-tail readless c cs less) (command app job number c q)

pub commands_append : (job : Job) (number : ℕ) (cs ds : List Command) (q : Recorded (List Step)) → commands_from app job number (cs ++ ds) q ≡ commands_from app job (number + length cs) ds (commands_from app job number cs q)
commands_append job number [] ds q =
    let same : number ≡ number + 0 = omega arith in
    ap (λ (k : ℕ). commands_from app job k ds q) same
commands_append job number (c ∷ cs) ds q =
    let same : suc number + length cs ≡ number + suc (length cs) = omega arith in
    commands_append job (suc number) cs ds (command app job number c q)
    ∙ ap (λ (k : ℕ). commands_from app job k ds (commands_from app job number (c ∷ cs) q)) same

-- a run without entries, as the new run is, too
record IsBegun (o : Difference) (r : Course) : Type 0 where
  entries : r.entries ≡ []
  order : r.order ≡ []
  globals : o.globals ≡ r.globals
  held : o.held ≡ r.held

-- Before READ the new run has the old steps.
abbrev FrontHolds : Program → List ℕ → (Recorded (List Step) → Recorded (List Step)) → Course → Type 0
FrontHolds p key run r =
    (o last : Difference) (us : List Step) → IsBegun o r → AreBeside p key o (run (recorded r [])).seen us last →
    (us ≡ (run (recorded r [])).seen) × (last.entry ≡ o.entry) × IsBegun last (run (recorded r [])).course

none_front : (p : Program) (key : List ℕ) (r : Course) (o last : Difference) (us : List Step) → IsBegun o r → AreBeside p key o [] us last → (us ≡ []) × (last.entry ≡ o.entry) × IsBegun last r
none_front p key r o last [] h is = (refl, ap (λ (m : Difference). m.entry) is, subst (λ (m : Difference). IsBegun m r) (sym is) h)
none_front p key r o last (u ∷ us) h is = absurd is

front_then : (p : Program) (key : List ℕ) (run run_on : Recorded (List Step) → Recorded (List Step)) (r : Course) → FrontHolds p key run r → FrontHolds p key run_on (run (recorded r [])).course → OnlyAdds run_on (run (recorded r [])).course → FrontHolds p key (λ q. run_on (run q)) r
front_then p key run run_on r first next adds = λ o last us h is.
    let mid = run (recorded r []) in
    let whole = adds mid.seen in
    let parts = parted p key mid.seen (run_on (recorded mid.course [])).seen us o last (subst (λ (q : Recorded (List Step)). AreBeside p key o q.seen us last) whole is) in
    let one = first o parts.mid parts.first h parts.before in
    let two = next parts.mid last parts.second one.2 parts.behind in
    let steps = parts.whole ∙ (λ j. one.0 j ++ two.0 j) ∙ ap (λ (q : Recorded (List Step)). q.seen) (sym whole) in
    (steps, two.1 ∙ one.1, subst (λ (q : Recorded (List Step)). IsBegun last q.course) (sym whole) two.2)

module _ (job : Job) (law : DependsOnInput job.program) (key : List ℕ) where
  -- a step for no entry
  abbrev one : ℕ → ℕ → Target → Course → Step
  one number line t r = own_step job.program law (site_of job number line) t None r

  abbrev then_one : ℕ → ℕ → Target → Course → Course
  then_one number line t r = after job.program law (site_of job number line) t None r

  one_front : (number line : ℕ) (t : Target) (r : Course) (o last : Difference) (us : List Step) → IsBegun o r → AreBeside job.program key o (one number line t r ∷ []) us last →
      (us ≡ one number line t r ∷ []) × (last.entry ≡ o.entry) × IsBegun last (then_one number line t r)
  one_front number line t r o last [] h is = absurd is
  one_front number line t r o last (u ∷ us) h is =
      let s = one number line t r in
      let input : u.input ≡ s.input = is.0.input ∙ (λ j. record s.input { globals = h.globals j; held = h.held j }) in
      let same : u ≡ s = is.0.is.is ∙ (λ j. step_kept (is.0.command j) (input j) (own_left (step_in job.program (input j)))) in
      let now : IsBegun (left false o u) (then_one number line t r) = record {
        entries = h.entries;
        order = h.order;
        globals = ap (λ (v : Step). v.outcome.globals) same;
        held = ap (λ (v : Step). v.outcome.held) same;
      }
      in
      let rest = none_front job.program key (then_one number line t r) (left false o u) last us now is.1 in
      let steps : u ∷ us ≡ s ∷ [] = λ j. same j ∷ rest.0 j in
      (steps, rest.1, rest.2)

  execute_front : (number line : ℕ) (t : Target) (r : Course) → FrontHolds job.program key (carried_out app job number line (Execute t)) r
  execute_front number line t r = λ o last us h is.
      let run = stepped_is job.program law (site_of job number line) t None r [] tt in
      let so = one_front number line t r o last us h (subst (λ (q : Recorded (List Step)). AreBeside job.program key o q.seen us last) run is) in
      subst (λ (q : Recorded (List Step)). (us ≡ q.seen) × (last.entry ≡ o.entry) × IsBegun last q.course) (sym run) so

  over_front : (number line : ℕ) (t : Target) (order : List ℕ) (r : Course) → order ≡ [] → FrontHolds job.program key (iterated app job.program (site_of job number line) t order) r
  over_front number line t order r is =
      subst (λ (ms : List ℕ). FrontHolds job.program key (iterated app job.program (site_of job number line) t ms) r) (sym is) (none_front job.program key r)

  sort_front : (number line : ℕ) (r : Course) → FrontHolds job.program key (carried_out app job number line Sort) r
  unfolding sorted
  sort_front number line r = λ o last us h is.
      let order : (sorted_run r).order ≡ [] = ap (λ (es : List Entry). sorted (key_at es) (list_order es)) h.entries in
      none_front job.program key (sorted_run r) o last us (record { entries = h.entries; order = order; globals = h.globals; held = h.held }) is

  action_front : (number line : ℕ) (a : Action) → is_read a ≡ false → (r : Course) → FrontHolds job.program key (carried_out app job number line a) r
  action_front number line Entries other r = none_front job.program key r
  action_front number line (Execute t) other r = execute_front number line t r
  action_front number line (Function n) other r = none_front job.program key r
  action_front number line Integers other r = none_front job.program key r
  action_front number line (Iterate t) other r = λ o last us h is. over_front number line t r.order r h.order o last us h is
  action_front number line (Macro n) other r = none_front job.program key r
  action_front number line Read other r = absurd cc
  action_front number line (Reverse t) other r = λ o last us h is.
      over_front number line t (reverse r.order) r (ap reverse h.order) o last us h is
  action_front number line Sort other r = sort_front number line r
  action_front number line Strings other r = none_front job.program key r

  next_front : (b : Bool) (number : ℕ) (c : Command) (cs : List Command) → is_read c.action ≡ false → ((r : Course) → FrontHolds job.program key (commands_from app job (suc number) cs) r) → (r : Course) →
      FrontHolds job.program key (λ q. commands_from app job (suc number) cs (unless_stopped b q (carried_out app job number c.line c.action q))) r
  next_front true number c cs other rest r = rest r
  next_front false number c cs other rest r =
      let next = (carried_out app job number c.line c.action (recorded r [])).course in
      front_then job.program key (carried_out app job number c.line c.action) (commands_from app job (suc number) cs) r
      (action_front number c.line c.action other r) (rest next) (commands_add job (suc number) cs next)

  front_beside : (number : ℕ) (cs : List Command) → AreReadless cs → (r : Course) → FrontHolds job.program key (commands_from app job number cs) r
  front_beside number [] less r = none_front job.program key r
  front_beside number (c ∷ cs) less r = λ o last us h is.
      next_front r.stopped number c cs (All-head readless c cs less) (front_beside (suc number) cs (All-tail readless c cs less)) r o last us h is

-- READ

module _ (n : ℕ) (key : List ℕ) (d : FoundEntry) (was is : Resolved) (p : Program) (databases : List (List ℕ)) (r : Course) where
  fits_read : FindsChanged n key d was is p → Fits n key (read_in p databases was r)
  fits_read h = record { keyed = h.keyed; ordered = arranged_range (length (map (with_blank_variables p) was.entries)) }

  reads_other : (o : Difference) → o.entry ≡ with_blank_variables p d → o.globals ≡ r.globals → o.held ≡ r.held → FindsChanged n key d was is p → read_in p databases is r ≡ beside n o (read_in p databases was r)
  reads_other o entry globals held h =
      let entries : map (with_blank_variables p) is.entries ≡ slice_set (map (with_blank_variables p) was.entries) n o.entry =
      ap (map (with_blank_variables p)) h.entries ∙ map-set (with_blank_variables p) was.entries n d
      ∙ ap (slice_set (map (with_blank_variables p) was.entries) n) (sym entry)
      in
      let order : list_order (map (with_blank_variables p) is.entries) ≡ list_order (map (with_blank_variables p) was.entries) =
      ap list_order entries ∙ ap (range_with_len 0) (length-set (map (with_blank_variables p) was.entries) n o.entry)
      in
      λ j. record r { entries = entries j; order = order j; globals = sym globals j; held = sym held j; preamble = h.preamble j; log = r.log ++ all_read databases (h.messages j) }

-- a run that was stopped before it had entries
begun_fits : (n : ℕ) (key : List ℕ) (o : Difference) (r : Course) → IsBegun o r → Fits n key r
begun_fits n key o r h =
    let none : length r.entries ≡ 0 = ap length h.entries in
    let arranged : IsOrdered r = subst (λ (es : List Entry). IsOrdered (record r { entries = es })) (sym h.entries) (subst (λ (ms : List ℕ). IsOrdered (record r { entries = []; order = ms })) (sym h.order) arranged_none) in
    record {
      keyed = record { here = λ lt. absurd (omega (arith, lt, none)); apart = λ m lt other. absurd (omega (arith, lt, none)) };
      ordered = arranged;
    }

begun_beside : (n : ℕ) (o : Difference) (r : Course) → IsBegun o r → r ≡ beside n o r
begun_beside n o r h =
    let entries : r.entries ≡ slice_set r.entries n o.entry = h.entries ∙ sym (ap (λ (es : List Entry). slice_set es n o.entry) h.entries) in
    λ j. record r { entries = entries j; globals = sym h.globals j; held = sym h.held j }

-- The whole run

-- Two runs go on from one course, the second one beside the first after that.
abbrev pub StartBeside : Program → ℕ → List ℕ → Difference → (Recorded (List Step) → Recorded (List Step)) → (Recorded (List Step) → Recorded (List Step)) → Course → Type 0
StartBeside p n key o run other r =
    (last : Difference) (us : List Step) → AreBeside p key o (run (recorded r [])).seen us last →
    (other (recorded r []) ≡ recorded (beside n last (run (recorded r [])).course) us)
    × Fits n key (run (recorded r [])).course

module _ (job : Job) (law : DependsOnInput job.program) (n : ℕ) (key : List ℕ) (files : List File) (d : FoundEntry) (front : List Command) (first : AreReadless front)
    (found : FindsChanged n key d (found_for job (0 + length front)) (found_for (record job { files = files }) (0 + length front)) job.program) where
  abbrev other_files : Job
  other_files = record job { files = files }

  -- the number of READ
  abbrev at : ℕ
  at = 0 + length front

  abbrev pub blank_entry : Entry
  blank_entry = with_blank_variables job.program d

  -- a run up to READ
  abbrev pub started : Job → Recorded (List Step) → Recorded (List Step)
  started j q =
      unless_stopped (commands_from app j 0 front q).course.stopped (commands_from app j 0 front q)
      (record (commands_from app j 0 front q) { course = read j at (commands_from app j 0 front q).course })

  abbrev reads : Job → Recorded (List Step) → Recorded (List Step)
  reads j q = record q { course = read j at q.course }

  read_seen : (b : Bool) (q : Recorded (List Step)) → (unless_stopped b q (reads job q)).seen ≡ q.seen
  read_seen true q = refl
  read_seen false q = refl

  read_beside : (b : Bool) (q : Recorded (List Step)) (o : Difference) → IsBegun o q.course → o.entry ≡ blank_entry →
      (unless_stopped b q (reads other_files q) ≡ recorded (beside n o (unless_stopped b q (reads job q)).course) q.seen)
      × Fits n key (unless_stopped b q (reads job q)).course
  read_beside true q o h entry =
      let there = ap (λ (c : Course). recorded c q.seen) (begun_beside n o q.course h) in
      (there, begun_fits n key o q.course h)
  read_beside false q o h entry =
      let other = reads_other n key d (found_for job at) (found_for other_files at) job.program job.databases q.course o entry h.globals h.held found in
      let there = ap (λ (c : Course). recorded c q.seen) other in
      (there, fits_read n key d (found_for job at) (found_for other_files at) job.program job.databases q.course found)

  start_beside : (begun : Course) → begun.entries ≡ [] → begun.order ≡ [] → StartBeside job.program n key (begins_with blank_entry begun) (started job) (started other_files) begun
  start_beside begun no_entries no_order = λ last us is.
      let q = commands_from app job 0 front (recorded begun []) in
      let h : IsBegun (begins_with blank_entry begun) begun = record { entries = no_entries; order = no_order; globals = refl; held = refl } in
      let steps = read_seen q.course.stopped q in
      let so = front_beside job law key 0 front first begun (begins_with blank_entry begun) last us h (subst (λ (ss : List Step). AreBeside job.program key (begins_with blank_entry begun) ss us last) steps is) in
      let now = read_beside q.course.stopped q last so.2 so.1 in
      let there =
      ap (λ (o : Recorded (List Step)). unless_stopped o.course.stopped o (reads other_files o)) (front_same job files 0 front first (recorded begun []))
      ∙ now.0
      ∙ ap (recorded (beside n last (started job (recorded begun [])).course)) (sym so.0)
      in
      (there, now.1)

  -- commands after READ
  pub after_read : (line : ℕ) (back : List Command) (j : Job) (q : Recorded (List Step)) → commands_from app j 0 (front ++ (record { action = Read; line = line }) ∷ back) q ≡ commands_from app j (suc at) back (started j q)
  after_read line back j q = commands_append j 0 front (record { action = Read; line = line } ∷ back) q

  -- the same in two parts: the steps up to READ, and those after it
  back_parts : (back : List Command) → AreReadless back → (begun : Course) → begun.entries ≡ [] → begun.order ≡ [] → (last : Difference) (us : List Step) →
      AreSortsAlike job n key (suc at) back (started job (recorded begun [])) (begins_with blank_entry begun) us →
      Parts job.program key (begins_with blank_entry begun) (started job (recorded begun [])).seen (commands_from app job (suc at) back (recorded (started job (recorded begun [])).course [])).seen us last →
      commands_from app other_files (suc at) back (started other_files (recorded begun [])) ≡ recorded (beside n last (commands_from app job (suc at) back (recorded (started job (recorded begun [])).course [])).course) us
  back_parts back less begun no_entries no_order last us alike parts =
      let q = started job (recorded begun []) in
      let one = start_beside begun no_entries no_order parts.mid parts.first parts.before in
      let later = sorts_behind job law n key files (suc at) back q (begins_with blank_entry begun) parts.mid us parts.first parts.second parts.whole parts.before alike in
      let two = commands_beside job law n key files (suc at) back less q.course parts.mid last parts.first parts.second one.1 parts.behind later in
      let steps = ap (recorded (beside n last (commands_from app job (suc at) back (recorded q.course [])).course)) (sym parts.whole) in
      ap (commands_from app other_files (suc at) back) one.0 ∙ two.0 ∙ steps

  back_beside : (back : List Command) → AreReadless back → (begun : Course) → begun.entries ≡ [] → begun.order ≡ [] → (last : Difference) (us : List Step) →
      AreBeside job.program key (begins_with blank_entry begun) (commands_from app job (suc at) back (started job (recorded begun []))).seen us last →
      AreSortsAlike job n key (suc at) back (started job (recorded begun [])) (begins_with blank_entry begun) us →
      commands_from app other_files (suc at) back (started other_files (recorded begun [])) ≡ recorded (beside n last (commands_from app job (suc at) back (started job (recorded begun []))).course) us
  back_beside back less begun no_entries no_order last us is alike =
      let o = begins_with blank_entry begun in
      let q = started job (recorded begun []) in
      let whole = commands_add job (suc at) back q.course q.seen in
      let parts = parted job.program key q.seen (commands_from app job (suc at) back (recorded q.course [])).seen us o last (subst (λ (x : Recorded (List Step)). AreBeside job.program key o x.seen us last) whole is) in
      back_parts back less begun no_entries no_order last us alike parts
      ∙ ap (λ (x : Recorded (List Step)). recorded (beside n last x.course) us) (sym whole)

  -- The whole run, if the SORTs after READ give both runs the same order.
  pub run_beside : (line : ℕ) (back : List Command) → AreReadless back → (begun : Course) → begun.entries ≡ [] → begun.order ≡ [] → (last : Difference) (us : List Step) →
      AreBeside job.program key (begins_with blank_entry begun) (commands_from app job 0 (front ++ (record { action = Read; line = line }) ∷ back) (recorded begun [])).seen us last →
      AreSortsAlike job n key (suc at) back (started job (recorded begun [])) (begins_with blank_entry begun) us →
      commands_from app other_files 0 (front ++ (record { action = Read; line = line }) ∷ back) (recorded begun []) ≡ recorded (beside n last (commands_from app job 0 (front ++ (record { action = Read; line = line }) ∷ back) (recorded begun [])).course) us
  run_beside line back less begun no_entries no_order last us is alike =
      let after = after_read line back job (recorded begun []) in
      after_read line back other_files (recorded begun [])
      ∙ back_beside back less begun no_entries no_order last us (subst (λ (x : Recorded (List Step)). AreBeside job.program key (begins_with blank_entry begun) x.seen us last) after is) alike
      ∙ ap (λ (x : Recorded (List Step)). recorded (beside n last x.course) us) (sym after)
