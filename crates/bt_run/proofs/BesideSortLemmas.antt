-- SORT in a run beside another, and what the steps before it left of the sort keys.
use Rattle.std.specs.Prelude.{slice_index_or, slice_set}
use Rattle.std.specs.List.{range_with_len}
use Rattle.std.proofs.Common.{◌≡◌, ◌≢◌, refl, sym, ap, ◌∙◌, subst, inl, inr, ℕ, zero, suc, ◌<◌, Bool, true, false, List, [], ◌∷◌, length, All, Some, arith}
use Rattle.std.proofs.lemmas.List.Elements.{All-head, All-tail}
use Rattle.std.proofs.lemmas.List.{get_or-set_other, get_or-set_same, length-set, set_past}
use Rattle.std.proofs.lemmas.Bool.{cases_eq, cases_lt}
use Rattle.std.proofs.Math.Path.{fun_ext}
use Rattle.bt_style.specs.declared.style.Target.{Target}
use Rattle.bt_style.specs.Program.{Program}
use Rattle.bt_actions.specs.declared.entry.Entry.{Entry}
use Rattle.bt_actions.specs.World.{no_entry}
use Rattle.bt_machine.specs.OwnEntry.{DependsOnInput}
use Rattle.bt_run.specs.declared.course.CommandPlace.{CommandPlace}
use Rattle.bt_run.specs.declared.course.Course.{Course}
use Rattle.bt_run.specs.declared.course.Step.{Step}
use Rattle.bt_run.specs.Commands.{iterated}
use Rattle.bt_run.specs.Course.{Recorded, stepped}
use Rattle.bt_run.specs.ReadCommand.{list_order}
use Rattle.bt_run.specs.SortCommand.{key_at, sorted}
use Rattle.bt_run.specs.inner.Beside.{AreForEach, Difference, SortsAlike, beside}
use Rattle.bt_run.specs.inner.SortOrder.{KeyFits}
use Rattle.bt_run.specs.inner.Cases.{sort_key, sorted_run, unless_stopped}
use Rattle.bt_run.specs.inner.Course.{recorded, with_variables}
use Rattle.bt_run.proofs.BesideLemmas.{after, all_taken, app, below_after, own_step, stepped_is, taken_behind}
use Rattle.bt_run.proofs.OrderStaysLemmas.{AreApart, order_stays}
use Rattle.bt_run.proofs.SortingLemmas.{arranged_sorted}

-- SORT

pub sorted_beside : (n : ℕ) (o : Difference) (r : Course) → SortsAlike n o r → sorted_run (beside n o r) ≡ beside n o (sorted_run r)
sorted_beside n o r alike =
    let order : sorted (key_at (slice_set r.entries n o.entry)) (list_order (slice_set r.entries n o.entry)) ≡ sorted (key_at r.entries) (list_order r.entries) =
    ap (λ (count : ℕ). sorted (key_at (slice_set r.entries n o.entry)) (range_with_len 0 count)) (length-set r.entries n o.entry) ∙ alike
    in
    λ j. record r { entries = slice_set r.entries n o.entry; order = order j; globals = o.globals; held = o.held }

-- The order stays where the new sort key fits between those of the neighbours.
pub sorts_alike : (n : ℕ) (o : Difference) (r : Course) (order : List ℕ) (i : ℕ) → sorted (key_at r.entries) (list_order r.entries) ≡ order → i < length order → slice_index_or order i 0 ≡ n → KeyFits (key_at r.entries) order i (sort_key o.entry) → SortsAlike n o r
sorts_alike n o r order i is lt at fits =
    let entries = slice_set r.entries n o.entry in
    let below : All (λ m. m < length r.entries) order = subst (λ (ms : List ℕ). All (λ m. m < length r.entries) ms) is (arranged_sorted (key_at r.entries) (length r.entries)).below in
    let within : n < length r.entries = subst (λ m. m < length r.entries) at (below i 0 lt) in
    let same : (m : ℕ) → m ≢ slice_index_or order i 0 → key_at r.entries m ≡ key_at entries m =
    λ m other. ap sort_key (sym (get_or-set_other r.entries n m o.entry no_entry (λ is_n. other (is_n ∙ sym at))))
    in
    let new : sort_key o.entry ≡ key_at entries (slice_index_or order i 0) =
    ap sort_key (sym (get_or-set_same r.entries n o.entry no_entry within)) ∙ ap (key_at entries) (sym at)
    in
    order_stays (key_at r.entries) (key_at entries) (length r.entries) order i is lt same (subst (KeyFits (key_at r.entries) order i) new fits)
    ∙ sym is

-- a sort key that is the old one
keys_same : (n : ℕ) (o : Difference) (r : Course) → sort_key o.entry ≡ key_at r.entries n → (m : ℕ) → key_at (slice_set r.entries n o.entry) m ≡ key_at r.entries m
keys_same n o r same m = elim (cases_eq m n) [
  | inr other ↦ ap sort_key (get_or-set_other r.entries n m o.entry no_entry other)
  | inl is ↦
      subst (λ (k : ℕ). key_at (slice_set r.entries n o.entry) k ≡ key_at r.entries k) (sym is)
      (elim (cases_lt n (length r.entries)) [
        | inl lt ↦ ap sort_key (get_or-set_same r.entries n o.entry no_entry lt) ∙ same
        | inr past ↦ ap (λ (es : List Entry). key_at es n) (set_past r.entries n o.entry past)
      ])
]

pub sorts_same : (n : ℕ) (o : Difference) (r : Course) → sort_key o.entry ≡ key_at r.entries n → SortsAlike n o r
sorts_same n o r same =
    ap (λ (keys : ℕ → List ℕ). sorted keys (list_order r.entries)) (fun_ext (keys_same n o r same))

-- ITERATE

module _ (p : Program) (law : DependsOnInput p) (site : CommandPlace) (t : Target) where
  abbrev own : ℕ → Course → Step
  own m r = own_step p law site t (Some m) r

  abbrev next : ℕ → Course → Course
  next m r = after p law site t (Some m) r

  abbrev taken : List ℕ → Course → Recorded (List Step)
  taken places r = all_taken p law site t places r

  is_next : (m : ℕ) (ms : List ℕ) (r : Course) → m < length r.entries → iterated app p site t ms (stepped app p site t (Some m) (recorded r [])) ≡ recorded (taken ms (next m r)).course (own m r ∷ (taken ms (next m r)).seen)
  is_next m ms r lt =
      ap (iterated app p site t ms) (stepped_is p law site t (Some m) r [] lt)
      ∙ taken_behind p law site t ms (next m r) (own m r ∷ [])

  -- nothing comes after a step that stopped the run
  stopped_unless : (b : Bool) (m : ℕ) (ms : List ℕ) (q : Recorded (List Step)) → b ≡ true → iterated app p site t ms q ≡ q → iterated app p site t ms (unless_stopped b q (stepped app p site t (Some m) q)) ≡ q
  stopped_unless true m ms q is h = h
  stopped_unless false m ms q is h = absurd cc

  stopped_stays : (ms : List ℕ) (q : Recorded (List Step)) → q.course.stopped ≡ true → iterated app p site t ms q ≡ q
  stopped_stays [] q is = refl
  stopped_stays (m ∷ ms) q is = stopped_unless q.course.stopped m ms q is (stopped_stays ms q is)

  -- an entry stays as it is in steps for others
  entry_unless : (b : Bool) (k m : ℕ) (ms : List ℕ) (r : Course) → m ≢ k → m < length r.entries →
      slice_index_or (taken ms r).course.entries k no_entry ≡ slice_index_or r.entries k no_entry →
      slice_index_or (taken ms (next m r)).course.entries k no_entry ≡ slice_index_or (next m r).entries k no_entry →
      slice_index_or (iterated app p site t ms (unless_stopped b (recorded r []) (stepped app p site t (Some m) (recorded r [])))).course.entries k no_entry ≡ slice_index_or r.entries k no_entry
  entry_unless true k m ms r other lt h g = h
  entry_unless false k m ms r other lt h g =
      ap (λ (q : Recorded (List Step)). slice_index_or q.course.entries k no_entry) (is_next m ms r lt) ∙ g
      ∙ get_or-set_other r.entries m k (with_variables (own m r).outcome.variables (slice_index_or r.entries m no_entry)) no_entry (λ is_m. other (sym is_m))

  entry_stays : (k : ℕ) (ms : List ℕ) (r : Course) → All (λ m. m ≢ k) ms → All (λ m. m < length r.entries) ms → slice_index_or (taken ms r).course.entries k no_entry ≡ slice_index_or r.entries k no_entry
  entry_stays k [] r others below = refl
  entry_stays k (m ∷ ms) r others below =
      let lt = All-head (λ z. z < length r.entries) m ms below in
      let behind = All-tail (λ z. z < length r.entries) m ms below in
      let rest = All-tail (λ z. z ≢ k) m ms others in
      entry_unless r.stopped k m ms r (All-head (λ z. z ≢ k) m ms others) lt (entry_stays k ms r rest behind)
      (entry_stays k ms (next m r) rest (below_after p law site t (Some m) r ms behind))

  -- one step for each entry
  abbrev SameRest : ℕ → List ℕ → Course → Type 0
  SameRest m ms r =
      (j : ℕ) → j < length ms → slice_index_or (next m r).entries (slice_index_or ms j 0) no_entry ≡ slice_index_or r.entries (slice_index_or ms j 0) no_entry

  input_of : (m : ℕ) (ms : List ℕ) (r : Course) (ss : List Step) (last : Course) → SameRest m ms r → AreForEach (next m r) ms ss last → (j : ℕ) (d : Step) → j < length (m ∷ ms) →
      (slice_index_or (own m r ∷ ss) j d).input.entry ≡ Some (slice_index_or r.entries (slice_index_or (m ∷ ms) j 0) no_entry)
  input_of m ms r ss last same rest zero d lt = refl
  input_of m ms r ss last same rest (suc j) d lt =
      let within : j < length ms = omega (arith, lt) in
      rest.inputs j d within ∙ ap (λ (e : Entry). Some e) (same j within)

  left_of : (m : ℕ) (ms : List ℕ) (r : Course) (ss : List Step) (last : Course) →
      slice_index_or last.entries m no_entry ≡ with_variables (own m r).outcome.variables (slice_index_or r.entries m no_entry) →
      SameRest m ms r → AreForEach (next m r) ms ss last → (j : ℕ) (d : Step) → j < length (m ∷ ms) →
      slice_index_or last.entries (slice_index_or (m ∷ ms) j 0) no_entry ≡ with_variables (slice_index_or (own m r ∷ ss) j d).outcome.variables (slice_index_or r.entries (slice_index_or (m ∷ ms) j 0) no_entry)
  left_of m ms r ss last here same rest zero d lt = here
  left_of m ms r ss last here same rest (suc j) d lt =
      let within : j < length ms = omega (arith, lt) in
      rest.left j d within ∙ ap (with_variables (slice_index_or ss j d).outcome.variables) (same j within)

  each_next : (m : ℕ) (ms : List ℕ) (r : Course) (ss : List Step) (last : Course) → m < length r.entries → All (λ k. k ≢ m) ms →
      slice_index_or last.entries m no_entry ≡ slice_index_or (next m r).entries m no_entry →
      AreForEach (next m r) ms ss last → AreForEach r (m ∷ ms) (own m r ∷ ss) last
  each_next m ms r ss last lt others here rest =
      let now = with_variables (own m r).outcome.variables (slice_index_or r.entries m no_entry) in
      let same : SameRest m ms r = λ j within. get_or-set_other r.entries m (slice_index_or ms j 0) now no_entry (others j 0 within) in
      let own_left = here ∙ get_or-set_same r.entries m now no_entry lt in
      record { count = ap suc rest.count; inputs = input_of m ms r ss last same rest; left = left_of m ms r ss last own_left same rest }

  each_unless : (b : Bool) (m : ℕ) (ms : List ℕ) (r : Course) → r.stopped ≡ b → m < length r.entries → All (λ k. k ≢ m) ms → All (λ k. k < length r.entries) ms →
      ((taken ms (next m r)).course.stopped ≡ false → AreForEach (next m r) ms (taken ms (next m r)).seen (taken ms (next m r)).course) →
      (iterated app p site t ms (unless_stopped b (recorded r []) (stepped app p site t (Some m) (recorded r [])))).course.stopped ≡ false →
      AreForEach r (m ∷ ms) (iterated app p site t ms (unless_stopped b (recorded r []) (stepped app p site t (Some m) (recorded r [])))).seen
      (iterated app p site t ms (unless_stopped b (recorded r []) (stepped app p site t (Some m) (recorded r [])))).course
  each_unless true m ms r is lt others below rest goes =
      let stays = ap (λ (q : Recorded (List Step)). q.course.stopped) (stopped_stays ms (recorded r []) is) in
      let both : true ≡ false = sym is ∙ sym stays ∙ goes in
      absurd (cc both)
  each_unless false m ms r is lt others below rest goes =
      let whole = is_next m ms r lt in
      let behind = taken ms (next m r) in
      let each = rest (sym (ap (λ (q : Recorded (List Step)). q.course.stopped) whole) ∙ goes) in
      let here = entry_stays m ms (next m r) others (below_after p law site t (Some m) r ms below) in
      subst (λ (q : Recorded (List Step)). AreForEach r (m ∷ ms) q.seen q.course) (sym whole) (each_next m ms r behind.seen behind.course lt others here each)

  -- The steps of ITERATE, if none stopped the run: each was given its entry as it was before, and left its variables.
  pub each_taken : (places : List ℕ) (r : Course) → AreApart places → All (λ m. m < length r.entries) places → (taken places r).course.stopped ≡ false → AreForEach r places (taken places r).seen (taken places r).course
  each_taken [] r apart below goes =
      record { count = refl; inputs = λ j d lt. absurd (omega (arith, lt)); left = λ j d lt. absurd (omega (arith, lt)) }
  each_taken (m ∷ ms) r apart below goes =
      let lt = All-head (λ z. z < length r.entries) m ms below in
      let behind = All-tail (λ z. z < length r.entries) m ms below in
      each_unless r.stopped m ms r refl lt apart.0 behind (each_taken ms (next m r) apart.1 (below_after p law site t (Some m) r ms behind)) goes
