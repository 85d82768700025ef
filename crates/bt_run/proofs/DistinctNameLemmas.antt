-- Each step of a run has a name of its own.
use Rattle.std.specs.Prelude.{◌==◌, ◌&&◌, bytes_eq, if◌then◌else◌, reverse, slice_index_or, sum_by, unwrap_or}
use Rattle.std.specs.List.{range_with_len}
use Rattle.std.proofs.Common.{◌≡◌, ◌≢◌, refl, sym, ap, ◌∙◌, subst, inl, inr, ℕ, zero, suc, ◌+◌, ◌<◌, ◌≤◌, Bool, true, false, List, [], ◌∷◌, length, map, All, Option, Some, None, Result, Ok, Err, arith}
use Rattle.std.proofs.lemmas.Bool.{cases_eq}
use Rattle.std.proofs.lemmas.Bool.Decides.{nat_tests}
use Rattle.std.proofs.lemmas.List.{length-map, reverse-append}
use Rattle.std.proofs.lemmas.List.Elements.{All-head, All-tail}
use Rattle.std.proofs.lemmas.List.Sums.{sum_by-cons, sum_by_push}
use Rattle.std.proofs.lemmas.Slice.Eq.{bytes_eq-Decides}
use Rattle.bt_text.specs.NameList.{are_apart}
use Rattle.bt_style.specs.declared.fault.StyleFault.{StyleFault}
use Rattle.bt_style.specs.declared.style.Action.{Action}
use Rattle.bt_style.specs.declared.style.Action.TheVariants.{Entry as Entries, Execute, Function, Integers, Iterate, Macro, Read, Reverse, Sort, Strings}
use Rattle.bt_style.specs.declared.style.Command.{Command}
use Rattle.bt_style.specs.declared.style.Target.{Target}
use Rattle.bt_style.specs.Program.{Program}
use Rattle.bt_style.specs.Reader.{style_of}
use Rattle.bt_actions.specs.declared.entry.Entry.{Entry}
use Rattle.bt_actions.specs.World.{no_entry}
use Rattle.bt_machine.specs.OwnEntry.{DependsOnInput}
use Rattle.bt_machine.specs.Step.{own, step}
use Rattle.bt_machine.proofs.Local.{step_local}
use Rattle.bt_job.specs.declared.citations.Citations.{Citations}
use Rattle.bt_job.specs.declared.files.File.{File}
use Rattle.bt_job.specs.Citations.{citations}
use Rattle.bt_job.specs.FileNames.{text_of}
use Rattle.bt_job.proofs.FitLemmas.{always_fit}
use Rattle.bt_log.specs.declared.message.Message.{Message}
use Rattle.bt_resolve.specs.declared.entry.Entry.{Entry as FoundEntry}
use Rattle.bt_resolve.proofs.ApartLemmas.{entries_apart}
use Rattle.bt_run.specs.declared.course.CommandPlace.{CommandPlace}
use Rattle.bt_run.specs.declared.course.Course.{Course}
use Rattle.bt_run.specs.declared.course.Step.{Step}
use Rattle.bt_run.specs.declared.index.StepName.{StepName}
use Rattle.bt_run.specs.Commands.{carried_out, commands_from, iterated}
use Rattle.bt_run.specs.Course.{Recorded, course_world, input_at, key_in, step_kept, stepped}
use Rattle.bt_run.specs.Meaning.{first_globals, run_begun, style_run, trace}
use Rattle.bt_run.specs.ReadCommand.{Job, declared_before, found_for, read, with_blank_variables}
use Rattle.bt_run.specs.inner.Cases.{command, items_in, job_for, run_with, site_of, styled, unless_stopped}
use Rattle.bt_run.specs.inner.Course.{IsOrdered}
use Rattle.bt_run.specs.inner.Index.{key_or_none}
use Rattle.bt_run.specs.inner.Names.{HaveDistinctNames, count_named, is_named, once_if}
use Rattle.bt_run.proofs.AnswerLemmas.{kept_steps}
use Rattle.bt_run.proofs.BesideLemmas.{all_reversed, app}
use Rattle.bt_run.proofs.ChangedEntryLemmas.{distinct_apart, names_differ}
use Rattle.bt_run.proofs.KeepKeysLemmas.{KeepsKeys, action_keeps, step_keeps, unless_keeps}
use Rattle.bt_run.proofs.OrderLemmas.{arranged_none, arranged_range, range_below}
use Rattle.bt_run.proofs.SortingLemmas.{range_above, sum_of_zeros}

-- Numbers

once_both : (a b : Bool) → once_if (a && b) ≤ once_if b
once_both true b = omega arith
once_both false b = omega arith

once_most : (b : Bool) → once_if b ≤ 1
once_most true = omega arith
once_most false = omega arith

once_if_other : (a b : Bool) → a ≡ false → once_if (a && b) ≡ 0
once_if_other true b h = absurd cc
once_if_other false b h = refl

once_if_tells : (b : Bool) → once_if b ≡ 1 → b ≡ true
once_if_tells true h = refl
once_if_tells false h = absurd (omega (arith, h))

differ : (m n : ℕ) → m ≢ n → (m == n) ≡ false
differ m n h = grind (arith, nat_tests)

below_one : (n : ℕ) → n ≤ 1 → n ≢ 1 → n ≡ 0
below_one zero most other = refl
below_one (suc zero) most other = absurd (other refl)
below_one (suc (suc n)) most other = absurd (omega (arith, most))

sum_reversed : (f : ℕ → ℕ) (xs : List ℕ) → sum_by f (reverse xs) ≡ sum_by f xs
sum_reversed f [] = refl
sum_reversed f (x ∷ xs) =
    ap (sum_by f) (reverse-append (x ∷ []) xs) ∙ sum_by_push f (reverse xs) x
    ∙ omega (arith, sum_reversed f xs, sum_by-cons f x xs)

-- Where a number is 1 at one place at most, and 0 elsewhere, the sum is 1 at most.
module _ (f : ℕ → ℕ) (top : ℕ) (most : (m : ℕ) → f m ≤ 1) (apart : (m n : ℕ) → m < top → n < top → m ≢ n → f m ≡ 1 → f n ≡ 1 → ⊥) where
  zeros_after : (a : ℕ) (ms : List ℕ) → a < top → f a ≡ 1 → All (λ m. a < m) ms → All (λ m. m < top) ms → All (λ m. f m ≡ 0) ms
  zeros_after a ms lt one above below = λ i d within.
      let m = slice_index_or ms i d in
      let more = above i d within in
      below_one (f m) (most m) (apart a m lt (below i d within) (λ same. omega (arith, same, more)) one)

  sum_once : (a n : ℕ) → a + n ≡ top → sum_by f (range_with_len a n) ≤ 1
  sum_once a zero h = omega arith
  sum_once a (suc n) h =
      let rest = range_with_len (a + 1) n in
      elim (cases_eq (f a) 1) [
        | inl one ↦
            (let zeros = zeros_after a rest (omega (arith, h)) one (range_above a (a + 1) n (omega arith)) (range_below (a + 1) n top (omega (arith, h))) in
            omega (arith, sum_by-cons f a rest, one, sum_of_zeros f rest zeros))
        | inr other ↦ omega (arith, sum_by-cons f a rest, below_one (f a) (most a) other, sum_once (a + 1) n (omega (arith, h)))
      ]

-- Keys

-- whether the entry at a place has a key
abbrev keyed : List Entry → List ℕ → ℕ → ℕ
keyed es key m = once_if (bytes_eq key (slice_index_or es m no_entry).key)

-- No two entries have the same key.
abbrev KeysOnce : List Entry → Type 0
KeysOnce es = (key : List ℕ) → sum_by (keyed es key) (range_with_len 0 (length es)) ≤ 1

keys_kept : (r next : Course) → KeepsKeys r next → KeysOnce r.entries → KeysOnce next.entries
keys_kept r next h once = λ key.
    let same : sum_by (keyed next.entries key) (range_with_len 0 (length next.entries)) ≡ sum_by (keyed r.entries key) (range_with_len 0 (length r.entries)) = λ i. sum_by (λ m. once_if (bytes_eq key (h.same m i).key)) (range_with_len 0 (h.count i)) in
    omega (arith, same, once key)

found_key : (p : Program) (es : List FoundEntry) (m : ℕ) → (slice_index_or (map (with_blank_variables p) es) m no_entry).key ≡ slice_index_or (map (λ (e : FoundEntry). e.key) es) m []
found_key p [] m = refl
found_key p (e ∷ es) zero = refl
found_key p (e ∷ es) (suc m) = found_key p es m

key_found : (key a : List ℕ) → once_if (bytes_eq key a) ≡ 1 → key ≡ a
key_found key a h = (bytes_eq-Decides key a).0 (once_if_tells (bytes_eq key a) h)

-- READ finds no two entries of one key.
keys_found : (job : Job) (number : ℕ) (r : Course) → are_apart job.cites.keys ≡ true → KeysOnce (read job number r).entries
keys_found job number r cited = λ key.
    let es = (found_for job number).entries in
    let names = map (λ (e : FoundEntry). e.key) es in
    let entries = map (with_blank_variables job.program) es in
    let apart : are_apart names ≡ true = entries_apart (declared_before number job.program) job.cites (map (items_in job.files) job.databases) job.min cited in
    let count : length entries ≡ length es = length-map es (with_blank_variables job.program) in
    let all : length names ≡ length es = length-map es (λ (e : FoundEntry). e.key) in
    sum_once (keyed entries key) (length entries)
    (λ m. once_most (bytes_eq key (slice_index_or entries m no_entry).key))
    (λ m n lt below other one two.
    names_differ names m n apart (omega (arith, lt, count, all)) (omega (arith, below, count, all)) other
    (sym (found_key job.program es m) ∙ sym (key_found key (slice_index_or entries m no_entry).key one) ∙ key_found key (slice_index_or entries n no_entry).key two ∙ found_key job.program es n))
    0 (length entries) (omega arith)

-- Steps

unless_named : (b : Bool) (q next : Recorded (List Step)) (n : ℕ) (name : StepName) → count_named name next.seen ≤ count_named name q.seen + n → count_named name (unless_stopped b q next).seen ≤ count_named name q.seen + n
unless_named true q next n name h = omega arith
unless_named false q next n name h = h

unless_same : (b : Bool) (q next : Recorded (List Step)) (name : StepName) → count_named name next.seen ≡ count_named name q.seen → count_named name (unless_stopped b q next).seen ≡ count_named name q.seen
unless_same true q next name h = refl
unless_same false q next name h = h

-- What is known of a run before the command of a number.
record Upto (number : ℕ) (q : Recorded (List Step)) : Type 0 where
  pub named : HaveDistinctNames q.seen
  pub none : (name : StepName) → number ≤ name.command → count_named name q.seen ≡ 0
  pub ordered : IsOrdered q.course
  pub keys : KeysOnce q.course.entries

upto_more : (number : ℕ) (q : Recorded (List Step)) → Upto number q → Upto (suc number) q
upto_more number q h = record {
  named = h.named;
  none = λ name above. h.none name (omega (arith, above));
  ordered = h.ordered;
  keys = h.keys;
}

upto_next : (number : ℕ) (q next : Recorded (List Step)) → Upto number q → KeepsKeys q.course next.course →
    ((name : StepName) → number ≤ name.command → count_named name next.seen ≤ 1) →
    ((name : StepName) → (name.command == number) ≡ false → count_named name next.seen ≡ count_named name q.seen) →
    Upto (suc number) next
upto_next number q next h keeps one other = record {
  named = λ name. elim (cases_eq name.command number) [
    | inl same ↦ one name (omega (arith, same))
    | inr apart ↦ omega (arith, other name (differ name.command number apart), h.named name)
  ];
  none = λ name above. other name (differ name.command number (λ same. omega (arith, same, above))) ∙ h.none name (omega (arith, above));
  ordered = keeps.ordered;
  keys = keys_kept q.course next.course keeps h.keys;
}

module _ (job : Job) (cited : are_apart job.cites.keys ≡ true) where
  abbrev law : DependsOnInput job.program
  law = step_local job.program

  abbrev taken : CommandPlace → Target → Option ℕ → Recorded (List Step) → Recorded (List Step)
  taken site t x q = stepped app job.program site t x q

  -- whether the step taken next has a name
  abbrev takes : CommandPlace → Target → Option ℕ → Recorded (List Step) → StepName → Bool
  takes site t x q name =
      name.command == site.command && bytes_eq (key_or_none name.key) (key_or_none (key_in (input_at t x (course_world q.course))))

  step_named : (site : CommandPlace) (t : Target) (x : Option ℕ) (q : Recorded (List Step)) (name : StepName) → count_named name (taken site t x q).seen ≡ count_named name q.seen + once_if (takes site t x q name)
  step_named site t x q name =
      let w = course_world q.course in
      let made : Step = step_kept site.command (input_at t x w) (own x w (step job.program x t w)) in
      sum_by_push (λ (s : Step). once_if (is_named name s)) q.seen made

  step_other : (site : CommandPlace) (t : Target) (x : Option ℕ) (q : Recorded (List Step)) (name : StepName) → (name.command == site.command) ≡ false → count_named name (taken site t x q).seen ≡ count_named name q.seen
  step_other site t x q name other =
      omega (arith, step_named site t x q name, once_if_other (name.command == site.command) (bytes_eq (key_or_none name.key) (key_or_none (key_in (input_at t x (course_world q.course))))) other)

  iterated_other : (site : CommandPlace) (t : Target) (ms : List ℕ) (q : Recorded (List Step)) (name : StepName) → (name.command == site.command) ≡ false → count_named name (iterated app job.program site t ms q).seen ≡ count_named name q.seen
  iterated_other site t [] q name other = refl
  iterated_other site t (m ∷ ms) q name other =
      let next = taken site t (Some m) q in
      iterated_other site t ms (unless_stopped q.course.stopped q next) name other
      ∙ unless_same q.course.stopped q next name (step_other site t (Some m) q name other)

  iterated_named : (site : CommandPlace) (t : Target) (ms : List ℕ) (q : Recorded (List Step)) → IsOrdered q.course → All (λ m. m < length q.course.entries) ms → (name : StepName) → count_named name (iterated app job.program site t ms q).seen ≤ count_named name q.seen + sum_by (keyed q.course.entries (key_or_none name.key)) ms
  iterated_named site t [] q ordered below name = omega arith
  iterated_named site t (m ∷ ms) q ordered below name =
      let key = key_or_none name.key in
      let next = taken site t (Some m) q in
      let on = unless_stopped q.course.stopped q next in
      let lt = All-head (λ k. k < length q.course.entries) m ms below in
      let keeps : KeepsKeys q.course on.course = unless_keeps job law q.course.stopped q next ordered (step_keeps job law site t (Some m) q ordered lt) in
      let rest = subst (λ (c : ℕ). All (λ k. k < c) ms) (sym keeps.count) (All-tail (λ k. k < length q.course.entries) m ms below) in
      let same : sum_by (keyed on.course.entries key) ms ≡ sum_by (keyed q.course.entries key) ms = λ i. sum_by (λ n. once_if (bytes_eq key (keeps.same n i).key)) ms in
      let more : count_named name next.seen ≤ count_named name q.seen + keyed q.course.entries key m = omega (arith, step_named site t (Some m) q name, once_both (name.command == site.command) (bytes_eq key (slice_index_or q.course.entries m no_entry).key)) in
      omega (arith, iterated_named site t ms on keeps.ordered rest name, same, sum_by-cons (keyed q.course.entries key) m ms, unless_named q.course.stopped q next (keyed q.course.entries key m) name more)

  iterated_upto : (number line : ℕ) (t : Target) (ms : List ℕ) (q : Recorded (List Step)) → Upto number q → All (λ m. m < length q.course.entries) ms → ((f : ℕ → ℕ) → sum_by f ms ≡ sum_by f q.course.order) → KeepsKeys q.course (iterated app job.program (site_of job number line) t ms q).course → Upto (suc number) (iterated app job.program (site_of job number line) t ms q)
  iterated_upto number line t ms q h below sums keeps =
      let site = site_of job number line in
      upto_next number q (iterated app job.program site t ms q) h keeps
      (λ name most. omega (arith, iterated_named site t ms q h.ordered below name, h.none name most, sums (keyed q.course.entries (key_or_none name.key)), h.ordered.sums (keyed q.course.entries (key_or_none name.key)), h.keys (key_or_none name.key)))
      (λ name other. iterated_other site t ms q name other)

  action_upto : (number line : ℕ) (a : Action) (q : Recorded (List Step)) → Upto number q → Upto (suc number) (carried_out app job number line a q)
  action_upto number line Entries q h = upto_more number q h
  action_upto number line (Execute t) q h =
      let site = site_of job number line in
      upto_next number q (taken site t None q) h (action_keeps job law number line (Execute t) refl q h.ordered)
      (λ name most. omega (arith, step_named site t None q name, once_most (takes site t None q name), h.none name most))
      (λ name other. step_other site t None q name other)
  action_upto number line (Function n) q h = upto_more number q h
  action_upto number line Integers q h = upto_more number q h
  action_upto number line (Iterate t) q h =
      iterated_upto number line t q.course.order q h h.ordered.below (λ f. refl) (action_keeps job law number line (Iterate t) refl q h.ordered)
  action_upto number line (Macro n) q h = upto_more number q h
  action_upto number line Read q h = record {
    named = h.named;
    none = λ name above. h.none name (omega (arith, above));
    ordered = arranged_range (length (read job number q.course).entries);
    keys = keys_found job number q.course cited;
  }
  action_upto number line (Reverse t) q h =
      iterated_upto number line t (reverse q.course.order) q h (all_reversed (λ m. m < length q.course.entries) q.course.order h.ordered.below) (λ f. sum_reversed f q.course.order) (action_keeps job law number line (Reverse t) refl q h.ordered)
  action_upto number line Sort q h =
      upto_next number q (carried_out app job number line Sort q) h (action_keeps job law number line Sort refl q h.ordered) (λ name most. h.named name) (λ name other. refl)
  action_upto number line Strings q h = upto_more number q h

  unless_upto : (b : Bool) (number : ℕ) (q next : Recorded (List Step)) → Upto number q → Upto (suc number) next → Upto (suc number) (unless_stopped b q next)
  unless_upto true number q next h g = upto_more number q h
  unless_upto false number q next h g = g

  commands_names : (number : ℕ) (cs : List Command) (q : Recorded (List Step)) → Upto number q → HaveDistinctNames (commands_from app job number cs q).seen
  commands_names number [] q h = h.named
  commands_names number (c ∷ cs) q h =
      commands_names (suc number) cs (command app job number c q)
      (unless_upto q.course.stopped number q (carried_out app job number c.line c.action q) h (action_upto number c.line c.action q h))

  run_names : (log : List Message) → HaveDistinctNames (style_run job log).seen
  run_names log =
      commands_names 0 job.program.commands (run_begun (first_globals job.program) log)
      (record { named = λ name. omega arith; none = λ name above. refl; ordered = arranged_none; keys = λ key. omega arith })

styled_names : (files : List File) (c : Citations) (min : ℕ) (style : List ℕ) → are_apart c.keys ≡ true → (read : Result Program StyleFault) → HaveDistinctNames (styled files c min style read).seen
styled_names files c min style cited (Err fault) = λ name. omega arith
styled_names files c min style cited (Ok p) = run_names (job_for files c min style p) cited c.log

with_names : (files : List File) (c : Citations) (min : ℕ) → are_apart c.keys ≡ true → (style : Option (List ℕ)) → HaveDistinctNames (run_with files c min style).seen
with_names files c min cited None = λ name. omega arith
with_names files c min cited (Some style) = styled_names files c min style cited (style_of (unwrap_or (text_of files style) []))

trace_names : (files : List File) (root : List ℕ) (min : ℕ) → HaveDistinctNames (trace files root min)
trace_names files root min =
    let c = citations files root in
    subst HaveDistinctNames (kept_steps files root min c (run_with files c min c.style) refl refl)
    (with_names files c min (distinct_apart c.keys (always_fit files root).keys) c.style)

pub run_names_distinct : (files : List File) (root : List ℕ) (min : ℕ) (ss : List Step) → ss ≡ trace files root min → HaveDistinctNames ss
run_names_distinct files root min ss is = subst HaveDistinctNames (sym is) (trace_names files root min)

pub none_named : HaveDistinctNames []
none_named = λ name. omega arith
