-- SORTs of a run beside another, by the numbers of the commands.
use Rattle.std.specs.Prelude.{slice_get, slice_index_or, ◌-◌}
use Rattle.std.proofs.Common.{◌≡◌, refl, sym, ap, ◌∙◌, subst, ℕ, zero, suc, ◌+◌, ◌<◌, Bool, true, false, List, [], ◌∷◌, ◌++◌, length, map, take, drop, Some, arith}
use Rattle.std.proofs.lemmas.List.{append_assoc, drop_more, get_or-drop, get_or-take, length-append, length-drop, length-take-le, take-append-drop}
use Rattle.std.proofs.lemmas.List.Elements.{All-take}
use Rattle.std.proofs.lemmas.Option.{get_or_from_slice_get, slice_get-get_or, slice_get_within}
use Rattle.bt_style.specs.declared.style.Action.TheVariants.{Iterate, Read, Sort}
use Rattle.bt_style.specs.declared.style.Command.{Command}
use Rattle.bt_style.specs.declared.style.Target.{Target}
use Rattle.bt_actions.specs.declared.entry.Entry.{Entry}
use Rattle.bt_machine.specs.OwnEntry.{DependsOnInput}
use Rattle.bt_resolve.specs.declared.entry.Entry.{Entry as FoundEntry}
use Rattle.bt_job.specs.declared.files.File.{File}
use Rattle.bt_log.specs.declared.message.Message.{Message}
use Rattle.bt_run.specs.declared.course.Course.{Course}
use Rattle.bt_run.specs.declared.course.Step.{Step}
use Rattle.bt_run.specs.Commands.{commands_from}
use Rattle.bt_run.specs.Course.{Recorded}
use Rattle.bt_run.specs.Meaning.{first_globals, run_begun}
use Rattle.bt_run.specs.ReadCommand.{Job, found_for, read, with_blank_variables}
use Rattle.bt_run.specs.Work.{IsStep}
use Rattle.bt_run.specs.inner.Beside.{Difference, FindsChanged, HasKey, SortsAlike, commands_run, is_for, run_before}
use Rattle.bt_run.specs.inner.SortOrder.{FitsBetween, KeepEntries, keeps_entries}
use Rattle.bt_run.specs.inner.WalkContext.{AreReadless, is_read}
use Rattle.bt_run.specs.inner.Cases.{sort_key, unless_stopped}
use Rattle.bt_run.specs.inner.Course.{IsOrdered}
use Rattle.bt_run.proofs.BesideKeysLemmas.{goes_before, sorts_as_before, sorts_by_steps}
use Rattle.bt_run.proofs.BesideLemmas.{app}
use Rattle.bt_run.proofs.BesideRunLemmas.{after_read, commands_append, started}
use Rattle.bt_run.proofs.BesideSortsLemmas.{take_behind}
use Rattle.bt_run.proofs.KeepKeysLemmas.{commands_keep_keys, keyed_after}
use Rattle.bt_run.proofs.OrderLemmas.{arranged_range}

-- Lists in parts

get_drop : {X : Type 0} (xs : List X) (k i : ℕ) → slice_get (drop k xs) i ≡ slice_get xs (k + i)
get_drop xs zero i =
    let same : i ≡ 0 + i = omega arith in
    ap (slice_get xs) same
get_drop [] (suc k) i = refl
get_drop (x ∷ xs) (suc k) i =
    let same : suc (k + i) ≡ suc k + i = omega arith in
    get_drop xs k i ∙ ap (slice_get (x ∷ xs)) same

split_at : {X : Type 0} (xs : List X) (k : ℕ) (x : X) → slice_get xs k ≡ Some x → xs ≡ take k xs ++ x ∷ drop (k + 1) xs
split_at xs k x at =
    sym (take-append-drop k xs)
    ∙ ap (λ ys. take k xs ++ ys) (drop_more xs k x (slice_get_within xs k x at) ∙ ap (λ y. y ∷ drop (k + 1) xs) (get_or_from_slice_get xs k x x at))

-- the commands between two
module _ (commands : List Command) (k m : ℕ) (c e : Command) (below : k < m) (at : slice_get commands k ≡ Some c) (at_next : slice_get commands m ≡ Some e) where
  abbrev behind_first : List Command
  behind_first = drop (k + 1) commands

  abbrev pub between : List Command
  between = take (m - (k + 1)) behind_first

  abbrev pub rest_of : List Command
  rest_of = drop (m - (k + 1) + 1) behind_first

  two_parts : commands ≡ take k commands ++ c ∷ (between ++ e ∷ rest_of)
  two_parts =
      let there : k + 1 + (m - (k + 1)) ≡ m = omega (arith, below) in
      let next : slice_get behind_first (m - (k + 1)) ≡ Some e = get_drop commands (k + 1) (m - (k + 1)) ∙ ap (slice_get commands) there ∙ at_next in
      split_at commands k c at ∙ ap (λ (ds : List Command). take k commands ++ c ∷ ds) (split_at behind_first (m - (k + 1)) e next)

  number_of : suc (0 + length (take k commands)) + length between ≡ m
  number_of =
      let within : m < length commands = slice_get_within commands m e at_next in
      let first : length (take k commands) ≡ k = length-take-le k commands (omega (arith, below, within)) in
      let left : length behind_first ≡ length commands - (k + 1) = length-drop (k + 1) commands in
      let second : length between ≡ m - (k + 1) = length-take-le (m - (k + 1)) behind_first (omega (arith, within, left)) in
      omega (arith, first, second, below)

  keep_between : ((i : ℕ) (f : Command) → k < i → i < m → slice_get commands i ≡ Some f → keeps_entries f.action ≡ true) → KeepEntries between
  keep_between keep i f lt =
      let within : m < length commands = slice_get_within commands m e at_next in
      let left : length behind_first ≡ length commands - (k + 1) = length-drop (k + 1) commands in
      let second : length between ≡ m - (k + 1) = length-take-le (m - (k + 1)) behind_first (omega (arith, within, left)) in
      let below_next : i < m - (k + 1) = omega (arith, lt, second) in
      let got : slice_index_or between i f ≡ slice_index_or commands (k + 1 + i) f =
      get_or-take (m - (k + 1)) behind_first i f below_next ∙ get_or-drop (k + 1) commands i f
      in
      ap (λ (g : Command). keeps_entries g.action) got
      ∙ keep (k + 1 + i) (slice_index_or commands (k + 1 + i) f) (omega arith) (omega (arith, below_next)) (slice_get-get_or commands (k + 1 + i) f (omega (arith, below_next, within)))

module _ (job : Job) (law : DependsOnInput job.program) (n : ℕ) (key : List ℕ) (files : List File) (d : FoundEntry) (front : List Command) (first : AreReadless front)
    (found : FindsChanged n key d (found_for job (0 + length front)) (found_for (record job { files = files }) (0 + length front)) job.program)
    (line : ℕ) (back : List Command) (behind : AreReadless back) (are : job.program.commands ≡ front ++ (record { action = Read; line = line }) ∷ back) (log : List Message) (goes : (commands_run job log).course.stopped ≡ false) where
  abbrev begun : Recorded (List Step)
  begun = run_begun (first_globals job.program) log

  abbrev reading : Command
  reading = record { action = Read; line = line }

  -- the run before READ, and after it
  abbrev unread : Recorded (List Step)
  unread = commands_from app job 0 front begun

  abbrev so_far : Recorded (List Step)
  so_far = started job law n key files d front first found job begun

  unread_goes : unread.course.stopped ≡ false
  unread_goes =
      let run : commands_run job log ≡ commands_from app job (0 + length front) (reading ∷ back) unread = ap (λ (cs : List Command). commands_from app job 0 cs begun) are ∙ commands_append job 0 front (reading ∷ back) begun in
      goes_before job (0 + length front) (reading ∷ back) unread (ap (λ (q : Recorded (List Step)). q.course.stopped) (sym run) ∙ goes)

  read_is : so_far ≡ record unread { course = read job (0 + length front) unread.course }
  read_is =
      ap (λ (b : Bool). unless_stopped b unread (record unread { course = read job (0 + length front) unread.course })) unread_goes

  read_ordered : IsOrdered so_far.course
  read_ordered =
      subst (λ (q : Recorded (List Step)). IsOrdered q.course) (sym read_is)
      (arranged_range (length (map (with_blank_variables job.program) (found_for job (0 + length front)).entries)))

  read_keyed : HasKey n key so_far.course.entries
  read_keyed = subst (λ (q : Recorded (List Step)). HasKey n key q.course.entries) (sym read_is) found.keyed

  -- After READ the entry at the place is the only one of its key.
  pub keyed_before : (k : ℕ) → length front < k → HasKey n key (run_before job log k).entries
  keyed_before k lt =
      let j = k - suc (length front) in
      let count : k ≡ length (front ++ reading ∷ []) + j = omega (arith, lt, length-append front (reading ∷ [])) in
      let commands : take k job.program.commands ≡ front ++ reading ∷ take j back =
      (λ i. take (count i) ((are ∙ sym (append_assoc front (reading ∷ []) back)) i))
      ∙ take_behind (front ++ reading ∷ []) back j
      ∙ append_assoc front (reading ∷ []) (take j back)
      in
      let there : run_before job log k ≡ (commands_from app job (suc (0 + length front)) (take j back) so_far).course =
      ap (λ (cs : List Command). (commands_from app job 0 cs begun).course) commands
      ∙ ap (λ (q : Recorded (List Step)). q.course) (after_read job law n key files d front first found line (take j back) job begun)
      in
      let readless : Command → Type 0 = λ (c : Command). is_read c.action ≡ false in
      let keeps = commands_keep_keys job law (suc (0 + length front)) (take j back) (All-take readless j back behind) so_far read_ordered in
      subst (λ (r : Course). HasKey n key r.entries) (sym there)
      (keyed_after n key so_far.course (commands_from app job (suc (0 + length front)) (take j back) so_far).course keeps read_keyed)

  -- SORT after READ, and the first ITERATE after that, with nothing between that changes entries.
  module _ (k m : ℕ) (c e : Command) (t : Target) (after : length front < k) (below : k < m) (at : slice_get job.program.commands k ≡ Some c) (sorts : c.action ≡ Sort) (at_next : slice_get job.program.commands m ≡ Some e) (iterates : e.action ≡ Iterate t)
      (keep : (i : ℕ) (f : Command) → k < i → i < m → slice_get job.program.commands i ≡ Some f → keeps_entries f.action ≡ true)
      (o : Difference) (i : ℕ) (s : Step) (here : slice_get (commands_run job log).seen i ≡ Some s) (of : s.command ≡ m) (is : IsStep job.program s) (own : is_for key s ≡ true) where
    abbrev as' : List Command
    as' = take k job.program.commands

    abbrev es : List Command
    es = between job.program.commands k m c e below at at_next

    abbrev ys : List Command
    ys = rest_of job.program.commands k m c e below at at_next

    split : job.program.commands ≡ as' ++ (record { action = Sort; line = c.line }) ∷ (es ++ (record { action = Iterate t; line = e.line }) ∷ ys)
    split =
        two_parts job.program.commands k m c e below at at_next
        ∙ (λ j. as' ++ (record { action = sorts j; line = c.line }) ∷ (es ++ (record { action = iterates j; line = e.line }) ∷ ys))

    number : suc (0 + length as') + length es ≡ m
    number = number_of job.program.commands k m c e below at at_next

    kept : KeepEntries es
    kept = keep_between job.program.commands k m c e below at at_next keep

    -- The new sort key is the old one.
    pub sorts_still : (d : Entry) → s.input.entry ≡ Some d → sort_key o.entry ≡ sort_key d → SortsAlike n o (run_before job log k)
    sorts_still d entry same =
        sorts_as_before job law log as' es ys c.line e.line t split kept goes n key (keyed_before k after) o i s d here (of ∙ sym number) is own entry same

    -- The new sort key fits between those of the neighbours' steps.
    pub sorts_between : FitsBetween (commands_run job log).seen m i (sort_key o.entry) → SortsAlike n o (run_before job log k)
    sorts_between fits =
        sorts_by_steps job law log as' es ys c.line e.line t split kept goes n key (keyed_before k after) o i s here (of ∙ sym number) is own
        (subst (λ (j : ℕ). FitsBetween (commands_run job log).seen j i (sort_key o.entry)) (sym number) fits)
