-- All commands of a style over files in which READ finds one entry changed.
use Rattle.std.specs.Prelude.{slice_get}
use Rattle.std.proofs.Common.{◌≡◌, refl, sym, ap, ◌∙◌, subst, ℕ, suc, ◌+◌, ◌<◌, ◌≤◌, false, List, [], ◌∷◌, ◌++◌, length, take, All, Some, arith}
use Rattle.std.proofs.Math.Seq.{take-append_seam}
use Rattle.std.proofs.lemmas.List.{append_assoc, length-append, length-take-le}
use Rattle.std.proofs.lemmas.List.Elements.{All-nil}
use Rattle.bt_style.specs.declared.style.Action.TheVariants.{Read, Sort}
use Rattle.bt_style.specs.declared.style.Command.{Command}
use Rattle.bt_style.specs.Program.{Program}
use Rattle.bt_machine.specs.OwnEntry.{DependsOnInput}
use Rattle.bt_resolve.specs.declared.entry.Entry.{Entry as FoundEntry}
use Rattle.bt_job.specs.declared.files.File.{File}
use Rattle.bt_log.specs.declared.message.Message.{Message}
use Rattle.bt_run.specs.declared.course.Course.{Course}
use Rattle.bt_run.specs.declared.course.Step.{Step}
use Rattle.bt_run.specs.Commands.{commands_from}
use Rattle.bt_run.specs.Course.{Recorded}
use Rattle.bt_run.specs.Meaning.{first_globals, run_begun}
use Rattle.bt_run.specs.ReadCommand.{Job, found_for, read, with_blank_variables}
use Rattle.bt_run.specs.inner.Beside.{AreBefore, AreBeside, AreSortsAlike, Difference, FindsChanged, SortsAlike, SortsAt, beside, commands_run, first_of, is_for, left, run_before}
use Rattle.bt_run.specs.inner.WalkContext.{AreReadless}
use Rattle.bt_run.specs.inner.Course.{recorded}
use Rattle.bt_run.proofs.BesideLemmas.{app, commands_add}
use Rattle.bt_run.proofs.BesideRunLemmas.{after_read, commands_append, run_beside, started}
use Rattle.bt_run.proofs.CommandStepsLemmas.{commands_all, meet_at, unless_all}

-- steps beside others determine where the runs differ at their end
last_same : (p : Program) (key : List ℕ) (o a b : Difference) (ss us : List Step) → AreBeside p key o ss us a → AreBeside p key o ss us b → a ≡ b
last_same p key o a b [] [] h g = h ∙ sym g
last_same p key o a b [] (u ∷ us) h g = absurd h
last_same p key o a b (s ∷ ss) [] h g = absurd h
last_same p key o a b (s ∷ ss) (u ∷ us) h g = last_same p key (left (is_for key s) o u) a b ss us h.1 g.1

get_seam : {X : Type 0} (xs : List X) (y : X) (ys : List X) → slice_get (xs ++ y ∷ ys) (length xs) ≡ Some y
get_seam [] y ys = refl
get_seam (x ∷ xs) y ys = get_seam xs y ys

module _ (job : Job) (law : DependsOnInput job.program) (n : ℕ) (key : List ℕ) (files : List File) (d : FoundEntry) (front : List Command) (first : AreReadless front)
    (found : FindsChanged n key d (found_for job (0 + length front)) (found_for (record job { files = files }) (0 + length front)) job.program)
    (line : ℕ) (back : List Command) (behind : AreReadless back) (are : job.program.commands ≡ front ++ (record { action = Read; line = line }) ∷ back) (log : List Message) where
  abbrev begun : Recorded (List Step)
  begun = run_begun (first_globals job.program) log

  abbrev reading : Command
  reading = record { action = Read; line = line }

  abbrev pub at_first : Difference
  at_first = first_of job.program (with_blank_variables job.program d)

  abbrev steps : List Step
  steps = (commands_run job log).seen

  -- the run up to READ, and on to a later command
  abbrev so_far : Recorded (List Step)
  so_far = started job law n key files d front first found job begun

  abbrev up_to : List Command → Recorded (List Step)
  up_to xs = commands_from app job (suc (0 + length front)) xs so_far

  -- a command after READ, by what comes before it and after it
  module _ (xs ys : List Command) (c : Command) (split : back ≡ xs ++ c ∷ ys) where
    abbrev number : ℕ
    number = suc (0 + length front) + length xs

    abbrev others : Recorded (List Step)
    others = commands_from app job number (c ∷ ys) (recorded (up_to xs).course [])

    all_commands : job.program.commands ≡ (front ++ reading ∷ xs) ++ c ∷ ys
    all_commands =
        are ∙ ap (λ (cs : List Command). front ++ reading ∷ cs) split ∙ sym (append_assoc front (reading ∷ xs) (c ∷ ys))

    counted : length (front ++ reading ∷ xs) ≡ number
    counted = omega (arith, length-append front (reading ∷ xs))

    got : slice_get job.program.commands number ≡ Some c
    got =
        ap (λ (cs : List Command). slice_get cs number) all_commands
        ∙ ap (slice_get ((front ++ reading ∷ xs) ++ c ∷ ys)) (sym counted)
        ∙ get_seam (front ++ reading ∷ xs) c ys

    run_there : run_before job log number ≡ (up_to xs).course
    run_there =
        let commands : take number job.program.commands ≡ front ++ reading ∷ xs =
        ap (take number) all_commands ∙ ap (λ (k : ℕ). take k ((front ++ reading ∷ xs) ++ c ∷ ys)) (sym counted) ∙ take-append_seam (front ++ reading ∷ xs) (c ∷ ys)
        in
        ap (λ (cs : List Command). (commands_from app job 0 cs begun).course) commands
        ∙ ap (λ (q : Recorded (List Step)). q.course) (after_read job law n key files d front first found line xs job begun)

    whole : steps ≡ (up_to xs).seen ++ others.seen
    whole =
        let run : commands_run job log ≡ recorded others.course ((up_to xs).seen ++ others.seen) =
        ap (λ (cs : List Command). commands_from app job 0 cs begun) (are ∙ ap (λ (cs : List Command). front ++ reading ∷ cs) split)
        ∙ after_read job law n key files d front first found line (xs ++ c ∷ ys) job begun
        ∙ commands_append job (suc (0 + length front)) xs (c ∷ ys) so_far
        ∙ commands_add job number (c ∷ ys) (up_to xs).course (up_to xs).seen
        in
        ap (λ (q : Recorded (List Step)). q.seen) run

    all_before : All (λ (s : Step). s.command < number) (up_to xs).seen
    all_before =
        let P : Step → Type 0 = λ (s : Step). s.command < number in
        let q = commands_from app job 0 front begun in
        let up_to_read = commands_all P job 0 front begun (λ k low high i o. omega (arith, high)) (All-nil P) in
        let read_too = unless_all P q.course.stopped q (record q { course = read job (0 + length front) q.course }) up_to_read up_to_read in
        commands_all P job (suc (0 + length front)) xs so_far (λ k low high i o. omega (arith, high)) read_too

    all_behind : All (λ (s : Step). number ≤ s.command) others.seen
    all_behind =
        let P : Step → Type 0 = λ (s : Step). number ≤ s.command in
        commands_all P job number (c ∷ ys) (recorded (up_to xs).course []) (λ k low high i o. omega (arith, low)) (All-nil P)

    -- the steps before the command are those of the commands before it
    before : (j : ℕ) → AreBefore number steps j → take j steps ≡ (up_to xs).seen
    before j at =
        let both = subst (λ (ss : List Step). AreBefore number ss j) whole at in
        let meet = meet_at (up_to xs).seen others.seen number j all_before all_behind both.within both.before both.behind in
        ap (take j) whole ∙ meet.0

    sorts : (us : List Step) (mid : Difference) → SortsAt job log n key number at_first us → (up_to xs).course.stopped ≡ false → AreBeside job.program key at_first (up_to xs).seen (take (length (up_to xs).seen) us) mid → SortsAlike n mid (up_to xs).course
    sorts us mid at goes is =
        let olds : take at.steps steps ≡ (up_to xs).seen = before at.steps at.before in
        let count : at.steps ≡ length (up_to xs).seen = sym (length-take-le at.steps steps at.before.within) ∙ ap length olds in
        let news : take at.steps us ≡ take (length (up_to xs).seen) us = ap (λ (k : ℕ). take k us) count in
        let there = subst (λ (ss : List Step). AreBeside job.program key at_first ss (take (length (up_to xs).seen) us) at.now) olds (subst (λ (vs : List Step). AreBeside job.program key at_first (take at.steps steps) vs at.now) news at.beside) in
        let same : at.now ≡ mid = last_same job.program key at_first at.now mid (up_to xs).seen (take (length (up_to xs).seen) us) there is in
        let alike : SortsAlike n at.now (up_to xs).course = subst (SortsAlike n at.now) run_there (at.alike (ap (λ (r : Course). r.stopped) run_there ∙ goes)) in
        subst (λ (o : Difference). SortsAlike n o (up_to xs).course) same alike

  -- The run of all commands is beside the old one, if each SORT after READ gives both the same order.
  pub commands_run_beside : (last : Difference) (us : List Step) → AreBeside job.program key at_first steps us last →
      ((number : ℕ) (c : Command) → length front < number → slice_get job.program.commands number ≡ Some c → c.action ≡ Sort → SortsAt job log n key number at_first us) →
      commands_run (record job { files = files }) log ≡ recorded (beside n last (commands_run job log).course) us
  commands_run_beside last us is sort =
      let all = ap (λ (cs : List Command). commands_from app job 0 cs begun) are in
      let alike : AreSortsAlike job n key (suc (0 + length front)) back so_far at_first us =
      λ xs ys sort_line mid split goes there.
      let c : Command = record { action = Sort; line = sort_line } in
      sorts xs ys c split us mid (sort (number xs ys c split) c (omega arith) (got xs ys c split) refl) goes there
      in
      ap (λ (cs : List Command). commands_from app (record job { files = files }) 0 cs begun) are
      ∙ run_beside job law n key files d front first found line back behind begun.course refl refl last us (subst (λ (q : Recorded (List Step)). AreBeside job.program key at_first q.seen us last) all is) alike
      ∙ ap (λ (q : Recorded (List Step)). recorded (beside n last q.course) us) (sym all)
