-- The sort keys that SORT compares, by the steps of the next ITERATE.
use Rattle.std.specs.Prelude.{slice_get, slice_index_or}
use Rattle.std.specs.Option.{option_map}
use Rattle.std.specs.Ordering.{is_gt, is_lt, nat_cmp, ordering_then}
use Rattle.std.specs.Cmp.Lexicographic.{slice_cmp}
use Rattle.std.proofs.Common.{Ordering, Less, Equal, Greater, ◌≡◌, refl, sym, ap, ◌∙◌, subst, inl, inr, ℕ, zero, suc, ◌+◌, ◌<◌, ◌≤◌, Bool, true, false, List, [], ◌∷◌, ◌++◌, length, All, Option, Some, None, arith}
use Rattle.std.proofs.lemmas.Bool.{cases_eq}
use Rattle.std.proofs.lemmas.Option.{get_or_from_slice_get, slice_get_within}
use Rattle.std.proofs.lemmas.List.{length-take-le}
use Rattle.std.proofs.lemmas.List.Elements.{All-head, All-nil, All-tail}
use Rattle.bt_style.specs.declared.style.Action.{Action}
use Rattle.bt_style.specs.declared.style.Action.TheVariants.{Entry as Entries, Execute, Function, Integers, Iterate, Macro, Read, Reverse, Sort, Strings}
use Rattle.bt_style.specs.declared.style.Command.{Command}
use Rattle.bt_style.specs.declared.style.Target.{Target}
use Rattle.bt_actions.specs.declared.entry.Entry.{Entry}
use Rattle.bt_actions.specs.World.{no_entry}
use Rattle.bt_machine.specs.OwnEntry.{DependsOnInput}
use Rattle.bt_log.specs.declared.message.Message.{Message}
use Rattle.bt_run.specs.declared.course.Course.{Course}
use Rattle.bt_run.specs.declared.course.Step.{Step}
use Rattle.bt_run.specs.Commands.{carried_out, commands_from}
use Rattle.bt_run.specs.Course.{Recorded}
use Rattle.bt_run.specs.Meaning.{first_globals, run_begun}
use Rattle.bt_run.specs.ReadCommand.{Job, list_order}
use Rattle.bt_run.specs.SortCommand.{key_at, sorted}
use Rattle.bt_run.specs.Work.{IsStep, same_key}
use Rattle.bt_run.specs.inner.Beside.{AreBefore, AreForEach, Difference, HasKey, SortsAlike, commands_run, is_for}
use Rattle.bt_run.specs.inner.SortOrder.{FitsBetween, IsUpTo, KeepEntries, keeps_entries}
use Rattle.bt_run.specs.inner.Cases.{command, site_of, sort_key, sorted_run, unless_stopped}
use Rattle.bt_run.specs.inner.Course.{IsArranged, IsOrdered, recorded}
use Rattle.bt_run.proofs.BesideLemmas.{all_taken, app, commands_add, stepped_is}
use Rattle.bt_run.proofs.BesideRunLemmas.{commands_append}
use Rattle.bt_run.proofs.BesideSortLemmas.{each_taken, sorts_alike, sorts_same}
use Rattle.bt_run.proofs.BesideStepsLemmas.{element}
use Rattle.bt_run.proofs.CommandStepsLemmas.{commands_all, iterated_all, meet_at}
use Rattle.bt_run.proofs.OrderStaysLemmas.{arranged_apart}
use Rattle.bt_run.proofs.SortingLemmas.{arranged_sorted}

surely : (o more : Ordering) → is_lt o ≡ true → is_gt (ordering_then o more) ≡ false
surely Less more h = refl
surely Equal more h = absurd cc
surely Greater more h = absurd cc

-- Steps in lists

some_same : {X : Type 0} (x y : X) → Some x ≡ Some y → x ≡ y
some_same x y h = let so : x ≡ y = cc in so

entry_same : (x y : Entry) → Some x ≡ Some y → x ≡ y
entry_same x y h = let so : x ≡ y = cc in so

after_lower : (number : ℕ) (as' bs : List Step) (k : ℕ) (s : Step) → All (λ (u : Step). u.command < number) as' → s.command ≡ number → slice_get (as' ++ bs) k ≡ Some s → (i : ℕ) × (k ≡ length as' + i) × (slice_get bs i ≡ Some s)
after_lower number [] bs k s lower of at =
    let same : k ≡ 0 + k = omega arith in
    (k, same, at)
after_lower number (a ∷ as') bs zero s lower of at =
    let low : a.command < number = lower 0 a (omega arith) in
    let same : a.command ≡ s.command = ap (λ (u : Step). u.command) (some_same a s at) in
    absurd (omega (arith, low, same, of))
after_lower number (a ∷ as') bs (suc k) s lower of at =
    let rest = after_lower number as' bs k s (All-tail (λ (u : Step). u.command < number) a as' lower) of at in
    let same : suc k ≡ suc (length as') + rest.0 = omega (arith, rest.1) in
    (rest.0, same, rest.2)

before_higher : (number : ℕ) (as' bs : List Step) (k : ℕ) (s : Step) → All (λ (u : Step). suc number ≤ u.command) bs → s.command ≡ number → slice_get (as' ++ bs) k ≡ Some s → slice_get as' k ≡ Some s
before_higher number [] bs k s higher of at =
    let high : suc number ≤ s.command = subst (λ (u : Step). suc number ≤ u.command) (get_or_from_slice_get bs k s s at) (higher k s (slice_get_within bs k s at)) in
    absurd (omega (arith, high, of))
before_higher number (a ∷ as') bs zero s higher of at = at
before_higher number (a ∷ as') bs (suc k) s higher of at = before_higher number as' bs k s higher of at

get_behind : (as' bs : List Step) (i : ℕ) → slice_get (as' ++ bs) (length as' + i) ≡ slice_get bs i
get_behind [] bs i =
    let same : 0 + i ≡ i = omega arith in
    ap (slice_get bs) same
get_behind (a ∷ as') bs i =
    let same : suc (length as') + i ≡ suc (length as' + i) = omega arith in
    ap (slice_get (a ∷ (as' ++ bs))) same ∙ get_behind as' bs i

get_before : (as' bs : List Step) (i : ℕ) (s : Step) → slice_get as' i ≡ Some s → slice_get (as' ++ bs) i ≡ Some s
get_before [] bs i s at = absurd (omega (arith, slice_get_within [] i s at))
get_before (a ∷ as') bs zero s at = at
get_before (a ∷ as') bs (suc i) s at = get_before as' bs i s at

module _ (job : Job) where
  -- Nothing comes after a step that stopped the run.
  stopped_unless : (b : Bool) (q next : Recorded (List Step)) → b ≡ true → unless_stopped b q next ≡ q
  stopped_unless true q next is = refl
  stopped_unless false q next is = absurd cc

  stopped_stays : (number : ℕ) (cs : List Command) (q : Recorded (List Step)) → q.course.stopped ≡ true → commands_from app job number cs q ≡ q
  stopped_stays number [] q stops = refl
  stopped_stays number (c ∷ cs) q stops =
      ap (commands_from app job (suc number) cs) (stopped_unless q.course.stopped q (carried_out app job number c.line c.action q) stops)
      ∙ stopped_stays (suc number) cs q stops

  goes_if : (b : Bool) (number : ℕ) (cs : List Command) (q : Recorded (List Step)) → q.course.stopped ≡ b → (commands_from app job number cs q).course.stopped ≡ false → q.course.stopped ≡ false
  goes_if true number cs q is goes =
      ap (λ (r : Recorded (List Step)). r.course.stopped) (sym (stopped_stays number cs q is)) ∙ goes
  goes_if false number cs q is goes = is

  pub goes_before : (number : ℕ) (cs : List Command) (q : Recorded (List Step)) → (commands_from app job number cs q).course.stopped ≡ false → q.course.stopped ≡ false
  goes_before number cs q goes = goes_if q.course.stopped number cs q refl goes

  command_goes : (number : ℕ) (c : Command) (q : Recorded (List Step)) → q.course.stopped ≡ false → command app job number c q ≡ carried_out app job number c.line c.action q
  command_goes number c q goes = ap (λ (b : Bool). unless_stopped b q (carried_out app job number c.line c.action q)) goes

-- the same entries in the same order
record AreSameEntries (r next : Course) : Type 0 where
  entries : next.entries ≡ r.entries
  order : next.order ≡ r.order

module _ (job : Job) (law : DependsOnInput job.program) where
  same_entries : (r : Course) → AreSameEntries r r
  same_entries r = record { entries = refl; order = refl }

  action_keeps : (number line : ℕ) (a : Action) → keeps_entries a ≡ true → (q : Recorded (List Step)) → AreSameEntries q.course (carried_out app job number line a q).course
  action_keeps number line Entries keeps q = same_entries q.course
  action_keeps number line (Execute t) keeps q =
      let run = stepped_is job.program law (site_of job number line) t None q.course q.seen tt in
      record { entries = ap (λ (r : Recorded (List Step)). r.course.entries) run; order = ap (λ (r : Recorded (List Step)). r.course.order) run }
  action_keeps number line (Function n) keeps q = same_entries q.course
  action_keeps number line Integers keeps q = same_entries q.course
  action_keeps number line (Iterate t) keeps q = absurd cc
  action_keeps number line (Macro n) keeps q = same_entries q.course
  action_keeps number line Read keeps q = absurd cc
  action_keeps number line (Reverse t) keeps q = absurd cc
  action_keeps number line Sort keeps q = absurd cc
  action_keeps number line Strings keeps q = same_entries q.course

  unless_keeps : (b : Bool) (q next : Recorded (List Step)) → AreSameEntries q.course next.course → AreSameEntries q.course (unless_stopped b q next).course
  unless_keeps true q next h = same_entries q.course
  unless_keeps false q next h = h

  commands_keep : (number : ℕ) (cs : List Command) → KeepEntries cs → (q : Recorded (List Step)) → AreSameEntries q.course (commands_from app job number cs q).course
  commands_keep number [] keep q = same_entries q.course
  commands_keep number (c ∷ cs) keep q =
      let keeps : Command → Type 0 = λ (e : Command). keeps_entries e.action ≡ true in
      let next = carried_out app job number c.line c.action q in
      let one = unless_keeps q.course.stopped q next (action_keeps number c.line c.action (All-head keeps c cs keep) q) in
      let rest = commands_keep (suc number) cs (All-tail keeps c cs keep) (command app job number c q) in
      record { entries = rest.entries ∙ one.entries; order = rest.order ∙ one.order }

  -- SORT, and the next ITERATE
  module _ (log : List Message) (as' es ys : List Command) (sort_line line : ℕ) (t : Target) (are : job.program.commands ≡ as' ++ (record { action = Sort; line = sort_line }) ∷ (es ++ (record { action = Iterate t; line = line }) ∷ ys)) (keep : KeepEntries es) (goes : (commands_run job log).course.stopped ≡ false) where
    abbrev sorting : Command
    sorting = record { action = Sort; line = sort_line }

    abbrev iterating : Command
    iterating = record { action = Iterate t; line = line }

    -- the course before SORT, and the order after it
    abbrev pub unsorted : Recorded (List Step)
    unsorted = commands_from app job 0 as' (run_begun (first_globals job.program) log)

    abbrev pub sort_order : List ℕ
    sort_order = sorted (key_at unsorted.course.entries) (list_order unsorted.course.entries)

    -- the run before ITERATE, and ITERATE's number
    abbrev ready : Recorded (List Step)
    ready = commands_from app job (suc (0 + length as')) es (command app job (0 + length as') sorting unsorted)

    abbrev pub iterate_number : ℕ
    iterate_number = suc (0 + length as') + length es

    run_is : commands_run job log ≡ commands_from app job iterate_number (iterating ∷ ys) ready
    run_is =
        let begun = run_begun (first_globals job.program) log in
        ap (λ (cs : List Command). commands_from app job 0 cs begun) are
        ∙ commands_append job 0 as' (sorting ∷ (es ++ iterating ∷ ys)) begun
        ∙ commands_append job (suc (0 + length as')) es (iterating ∷ ys) (command app job (0 + length as') sorting unsorted)

    ready_goes : ready.course.stopped ≡ false
    ready_goes =
        goes_before job iterate_number (iterating ∷ ys) ready (ap (λ (q : Recorded (List Step)). q.course.stopped) (sym run_is) ∙ goes)

    sorted_goes : unsorted.course.stopped ≡ false
    sorted_goes = goes_before job (0 + length as') (sorting ∷ es) unsorted ready_goes

    -- the entries and the order that ITERATE finds
    found : AreSameEntries (sorted_run unsorted.course) ready.course
    found =
        subst (λ (q : Recorded (List Step)). AreSameEntries q.course ready.course) (command_goes job (0 + length as') sorting unsorted sorted_goes)
        (commands_keep (suc (0 + length as')) es keep (command app job (0 + length as') sorting unsorted))

    ready_ordered : IsOrdered ready.course
    ready_ordered =
        let arranged : IsArranged (length unsorted.course.entries) sort_order = arranged_sorted (key_at unsorted.course.entries) (length unsorted.course.entries) in
        subst (λ (ms : List ℕ). IsArranged (length ready.course.entries) ms) (sym found.order)
        (subst (λ (es : List Entry). IsArranged (length es) sort_order) (sym found.entries) arranged)

    -- the steps of ITERATE, and those after it
    abbrev each : Recorded (List Step)
    each = all_taken job.program law (site_of job iterate_number line) t ready.course.order ready.course

    abbrev others : Recorded (List Step)
    others = commands_from app job iterate_number (iterating ∷ ys) (recorded ready.course [])

    whole : (commands_run job log).seen ≡ ready.seen ++ others.seen
    whole =
        ap (λ (q : Recorded (List Step)). q.seen) (run_is ∙ commands_add job iterate_number (iterating ∷ ys) ready.course ready.seen)

    others_are : others ≡ commands_from app job (suc iterate_number) ys each
    others_are =
        ap (commands_from app job (suc iterate_number) ys) (command_goes job iterate_number iterating (recorded ready.course []) ready_goes)

    each_goes : each.course.stopped ≡ false
    each_goes =
        let last : others.course.stopped ≡ false =
        ap (λ (q : Recorded (List Step)). q.course.stopped) (sym (run_is ∙ commands_add job iterate_number (iterating ∷ ys) ready.course ready.seen)) ∙ goes
        in
        goes_before job (suc iterate_number) ys each (ap (λ (q : Recorded (List Step)). q.course.stopped) (sym others_are) ∙ last)

    for_each : AreForEach ready.course ready.course.order each.seen each.course
    for_each =
        each_taken job.program law (site_of job iterate_number line) t ready.course.order ready.course (arranged_apart (length ready.course.entries) ready.course.order ready_ordered) ready_ordered.below each_goes

    others_seen : others.seen ≡ each.seen ++ (commands_from app job (suc iterate_number) ys (recorded each.course [])).seen
    others_seen =
        ap (λ (q : Recorded (List Step)). q.seen) (others_are ∙ commands_add job (suc iterate_number) ys each.course each.seen)

    first_is : (b : ℕ) → AreBefore iterate_number (commands_run job log).seen b → b ≡ length ready.seen
    first_is b at =
        let P : Step → Type 0 = λ (s : Step). s.command < iterate_number in
        let Q : Step → Type 0 = λ (s : Step). iterate_number ≤ s.command in
        let unsorted_all = commands_all P job 0 as' (run_begun (first_globals job.program) log) (λ k low high i o. omega (arith, high)) (All-nil P) in
        let before = commands_all P job (0 + length as') (sorting ∷ es) unsorted (λ k low high i o. omega (arith, high)) unsorted_all in
        let behind = commands_all Q job iterate_number (iterating ∷ ys) (recorded ready.course []) (λ k low high i o. omega (arith, low)) (All-nil Q) in
        let both = subst (λ (ss : List Step). AreBefore iterate_number ss b) whole at in
        let meet = meet_at ready.seen others.seen iterate_number b before behind both.within both.before both.behind in
        sym (length-take-le b (ready.seen ++ others.seen) both.within) ∙ ap length meet.0

    -- the steps of ITERATE among all
    each_of : All (λ (s : Step). s.command ≡ iterate_number) each.seen
    each_of =
        let P : Step → Type 0 = λ (s : Step). s.command ≡ iterate_number in
        iterated_all P job.program (site_of job iterate_number line) t ready.course.order (recorded ready.course []) (λ i o. refl) (All-nil P)

    all_steps : (commands_run job log).seen ≡ ready.seen ++ (each.seen ++ (commands_from app job (suc iterate_number) ys (recorded each.course [])).seen)
    all_steps = whole ∙ ap (λ (ss : List Step). ready.seen ++ ss) others_seen

    -- which of them a step is
    which : (k : ℕ) (s : Step) → slice_get (commands_run job log).seen k ≡ Some s → s.command ≡ iterate_number → (i : ℕ) × (k ≡ length ready.seen + i) × (slice_get each.seen i ≡ Some s)
    which k s at of =
        let P : Step → Type 0 = λ (u : Step). u.command < iterate_number in
        let Q : Step → Type 0 = λ (u : Step). suc iterate_number ≤ u.command in
        let unsorted_all = commands_all P job 0 as' (run_begun (first_globals job.program) log) (λ k low high i o. omega (arith, high)) (All-nil P) in
        let before = commands_all P job (0 + length as') (sorting ∷ es) unsorted (λ k low high i o. omega (arith, high)) unsorted_all in
        let behind = commands_all Q job (suc iterate_number) ys (recorded each.course []) (λ k low high i o. omega (arith, low)) (All-nil Q) in
        let rest = (commands_from app job (suc iterate_number) ys (recorded each.course [])).seen in
        let first = after_lower iterate_number ready.seen (each.seen ++ rest) k s before of (sym (ap (λ (ss : List Step). slice_get ss k) all_steps) ∙ at) in
        (first.0, first.1, before_higher iterate_number each.seen rest first.0 s behind of first.2)

    -- the entry that a step was given
    entry_of : (i : ℕ) (s : Step) → slice_get each.seen i ≡ Some s → s.input.entry ≡ Some (slice_index_or unsorted.course.entries (slice_index_or sort_order i 0) no_entry)
    entry_of i s at =
        let within : i < length ready.course.order = omega (arith, slice_get_within each.seen i s at, for_each.count) in
        ap (λ (u : Step). u.input.entry) (sym (get_or_from_slice_get each.seen i s s at))
        ∙ for_each.inputs i s within
        ∙ (λ k. Some (slice_index_or (found.entries k) (slice_index_or (found.order k) i 0) no_entry))

    step_there : (i : ℕ) (s : Step) → slice_get each.seen i ≡ Some s → slice_get (commands_run job log).seen (length ready.seen + i) ≡ Some s
    step_there i s at =
        ap (λ (ss : List Step). slice_get ss (length ready.seen + i)) all_steps
        ∙ get_behind ready.seen (each.seen ++ (commands_from app job (suc iterate_number) ys (recorded each.course [])).seen) i
        ∙ get_before each.seen (commands_from app job (suc iterate_number) ys (recorded each.course [])).seen i s at

    step_of : (i : ℕ) (s : Step) → slice_get each.seen i ≡ Some s → s.command ≡ iterate_number
    step_of i s at =
        ap (λ (u : Step). u.command) (sym (get_or_from_slice_get each.seen i s s at)) ∙ each_of i s (slice_get_within each.seen i s at)

    module _ (n : ℕ) (key : List ℕ) (keyed : HasKey n key unsorted.course.entries) where
      -- the only entry of its key
      place_is : (i : ℕ) (s : Step) → IsStep job.program s → is_for key s ≡ true → slice_get each.seen i ≡ Some s → slice_index_or sort_order i 0 ≡ n
      place_is i s is own at = elim (cases_eq (slice_index_or sort_order i 0) n) [
        | inl same ↦ same
        | inr other ↦
            let m = slice_index_or sort_order i 0 in
            let below = arranged_sorted (key_at unsorted.course.entries) (length unsorted.course.entries) in
            let lt : i < length sort_order = omega (arith, slice_get_within each.seen i s at, for_each.count, ap length found.order) in
            let named : s.key ≡ Some (slice_index_or unsorted.course.entries m no_entry).key = ap (λ (u : Step). u.key) is.is ∙ ap (option_map (λ (e : Entry). e.key)) (entry_of i s at) in
            let no : is_for key s ≡ false = ap (λ (o : Option (List ℕ)). same_key o (Some key)) named ∙ keyed.apart m (below.below i 0 lt) other in
            let both : true ≡ false = sym own ∙ no in
            absurd (cc both)
      ]

      -- SORT gives both the same order where the new sort key is the old one.
      pub sorts_as_before : (o : Difference) (k : ℕ) (s : Step) (e : Entry) → slice_get (commands_run job log).seen k ≡ Some s → s.command ≡ iterate_number → IsStep job.program s → is_for key s ≡ true → s.input.entry ≡ Some e → sort_key o.entry ≡ sort_key e → SortsAlike n o unsorted.course
      sorts_as_before o k s e at of is own entry same =
          let i = which k s at of in
          let place = place_is i.0 s is own i.2 in
          let there : e ≡ slice_index_or unsorted.course.entries (slice_index_or sort_order i.0 0) no_entry = entry_same e (slice_index_or unsorted.course.entries (slice_index_or sort_order i.0 0) no_entry) (sym entry ∙ entry_of i.0 s i.2) in
          sorts_same n o unsorted.course (same ∙ ap sort_key there ∙ ap (key_at unsorted.course.entries) place)

      -- SORT gives both the same order where the new sort key fits between those of the neighbours' steps.
      pub sorts_by_steps : (o : Difference) (k : ℕ) (s : Step) → slice_get (commands_run job log).seen k ≡ Some s → s.command ≡ iterate_number → IsStep job.program s → is_for key s ≡ true → FitsBetween (commands_run job log).seen iterate_number k (sort_key o.entry) → SortsAlike n o unsorted.course
      sorts_by_steps o k s at of is own fits =
          let i = which k s at of in
          let entries = unsorted.course.entries in
          let keys = key_at entries in
          let count : length each.seen ≡ length sort_order = for_each.count ∙ ap length found.order in
          let lt : i.0 < length sort_order = omega (arith, slice_get_within each.seen i.0 s i.2, count) in
          let behind : (j : ℕ) → j + 1 ≡ i.0 → IsUpTo (keys (slice_index_or sort_order j 0)) (slice_index_or sort_order j 0) (sort_key o.entry) (slice_index_or sort_order i.0 0) =
          λ j next.
          let u = element each.seen j (omega (arith, next, lt, count)) in
          let less = fits.behind (length ready.seen + j) u.0 (slice_index_or entries (slice_index_or sort_order j 0) no_entry) (omega (arith, next, i.1)) (step_there j u.0 u.1) (step_of j u.0 u.1) (entry_of j u.0 u.1) in
          surely (slice_cmp nat_cmp (keys (slice_index_or sort_order j 0)) (sort_key o.entry)) (nat_cmp (slice_index_or sort_order j 0) (slice_index_or sort_order i.0 0)) less
          in
          let before : i.0 + 1 < length sort_order → IsUpTo (sort_key o.entry) (slice_index_or sort_order i.0 0) (keys (slice_index_or sort_order (i.0 + 1) 0)) (slice_index_or sort_order (i.0 + 1) 0) =
          λ more_left.
          let u = element each.seen (i.0 + 1) (omega (arith, more_left, count)) in
          let next : length ready.seen + (i.0 + 1) ≡ k + 1 = omega (arith, i.1) in
          let there : slice_get (commands_run job log).seen (k + 1) ≡ Some u.0 = sym (ap (slice_get (commands_run job log).seen) next) ∙ step_there (i.0 + 1) u.0 u.1 in
          let less = fits.before u.0 (slice_index_or entries (slice_index_or sort_order (i.0 + 1) 0) no_entry) there (step_of (i.0 + 1) u.0 u.1) (entry_of (i.0 + 1) u.0 u.1) in
          surely (slice_cmp nat_cmp (sort_key o.entry) (keys (slice_index_or sort_order (i.0 + 1) 0))) (nat_cmp (slice_index_or sort_order i.0 0) (slice_index_or sort_order (i.0 + 1) 0)) less
          in
          sorts_alike n o unsorted.course sort_order i.0 refl lt (place_is i.0 s is own i.2) (record { behind = behind; before = before })
