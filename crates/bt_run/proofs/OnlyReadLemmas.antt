-- A run beside another under a style with one READ, by the numbers of its commands.
use Rattle.std.specs.Prelude.{slice_get, slice_index_or}
use Rattle.std.proofs.Common.{◌≡◌, refl, sym, ap, ◌∙◌, subst, ℕ, ◌+◌, ◌<◌, ◌≤◌, true, false, List, [], ◌∷◌, ◌++◌, length, take, drop, All, Some, arith}
use Rattle.std.proofs.lemmas.List.{drop_more, length-take-le, take-append-drop}
use Rattle.std.proofs.lemmas.List.Elements.{All-nil}
use Rattle.bt_style.specs.declared.style.Action.{Action}
use Rattle.bt_style.specs.declared.style.Action.TheVariants.{Entry as Entries, Execute, Function, Integers, Iterate, Macro, Read, Reverse, Sort, Strings}
use Rattle.bt_style.specs.declared.style.Command.{Command}
use Rattle.bt_actions.specs.declared.entry.Entry.{Entry}
use Rattle.bt_machine.specs.OwnEntry.{DependsOnInput}
use Rattle.bt_resolve.specs.declared.entry.Entry.{Entry as FoundEntry}
use Rattle.bt_job.specs.declared.files.File.{File}
use Rattle.bt_log.specs.declared.message.Message.{Message}
use Rattle.bt_run.specs.declared.course.Step.{Step}
use Rattle.bt_run.specs.Meaning.{first_globals, run_begun}
use Rattle.bt_run.specs.ReadCommand.{Job, found_for, with_blank_variables}
use Rattle.bt_run.specs.Work.{IsStep}
use Rattle.bt_run.specs.inner.Beside.{AreBefore, AreBeside, Difference, FindsChanged, SortsAlike, SortsAt, beside, commands_run, first_of, is_for, run_before}
use Rattle.bt_run.specs.inner.SortOrder.{FitsBetween, IsSortAndIterate}
use Rattle.bt_run.specs.inner.WalkContext.{AreReadless, IsOnlyRead, is_read}
use Rattle.bt_run.specs.inner.Cases.{sort_key}
use Rattle.bt_run.specs.inner.Course.{recorded}
use Rattle.bt_run.specs.Commands.{commands_from}
use Rattle.bt_run.specs.Course.{Recorded}
use Rattle.bt_run.proofs.BesideLemmas.{app, commands_add}
use Rattle.bt_run.proofs.BesideRunLemmas.{commands_append}
use Rattle.bt_run.proofs.CommandStepsLemmas.{behind_first, commands_all}
use Rattle.bt_run.proofs.BesideNumbersLemmas.{sorts_between, sorts_still}
use Rattle.bt_run.proofs.BesideWholeLemmas.{commands_run_beside}

read_is : (a : Action) → is_read a ≡ true → a ≡ Read
read_is Entries h = absurd cc
read_is (Execute t) h = absurd cc
read_is (Function n) h = absurd cc
read_is Integers h = absurd cc
read_is (Iterate t) h = absurd cc
read_is (Macro n) h = absurd cc
read_is Read h = refl
read_is (Reverse t) h = absurd cc
read_is Sort h = absurd cc
read_is Strings h = absurd cc

pub only_read : (cs : List Command) (k : ℕ) (d : Command) → k < length cs → is_read (slice_index_or cs k d).action ≡ true → AreReadless (take k cs) → AreReadless (drop (k + 1) cs) → IsOnlyRead k cs
only_read cs k d lt reads first behind =
    let c = slice_index_or cs k d in
    let is : c ≡ record { action = Read; line = c.line } = λ j. record { action = read_is c.action reads j; line = c.line } in
    record {
      front = take k cs;
      line = c.line;
      back = drop (k + 1) cs;
      are = sym (take-append-drop k cs) ∙ ap (λ (ds : List Command). take k cs ++ ds) (drop_more cs k d lt ∙ ap (λ (e : Command). e ∷ drop (k + 1) cs) is);
      at = sym (length-take-le k cs (omega (arith, lt)));
      first = first;
      behind = behind;
    }

-- The steps before the first one of a command of this number or a later one are those of the commands before it.
pub are_before : (job : Job) (log : List Message) (number j : ℕ) → number ≤ length job.program.commands → j ≤ length (commands_run job log).seen → All (λ (s : Step). s.command < number) (take j (commands_run job log).seen) → ((s : Step) → slice_get (commands_run job log).seen j ≡ Some s → number ≤ s.command) → AreBefore number (commands_run job log).seen j
are_before job log number j within most first here =
    let commands = job.program.commands in
    let begun = run_begun (first_globals job.program) log in
    let P : Step → Type 0 = λ (s : Step). s.command < number in
    let Q : Step → Type 0 = λ (s : Step). number ≤ s.command in
    let count : length (take number commands) ≡ number = length-take-le number commands within in
    let q = commands_from app job 0 (take number commands) begun in
    let next = commands_from app job (0 + length (take number commands)) (drop number commands) (recorded q.course []) in
    let run : commands_run job log ≡ recorded next.course (q.seen ++ next.seen) =
    ap (λ (cs : List Command). commands_from app job 0 cs begun) (sym (take-append-drop number commands))
    ∙ commands_append job 0 (take number commands) (drop number commands) begun
    ∙ commands_add job (0 + length (take number commands)) (drop number commands) q.course q.seen
    in
    let whole : (commands_run job log).seen ≡ q.seen ++ next.seen = ap (λ (r : Recorded (List Step)). r.seen) run in
    let below = commands_all P job 0 (take number commands) begun (λ k low high i o. omega (arith, high, count)) (All-nil P) in
    let above = commands_all Q job (0 + length (take number commands)) (drop number commands) (recorded q.course []) (λ k low high i o. omega (arith, low, count)) (All-nil Q) in
    let behind : All Q (drop j (q.seen ++ next.seen)) =
    behind_first q.seen next.seen number j below above (omega (arith, most, ap length whole))
    (subst (λ (ss : List Step). All P (take j ss)) whole first) (subst (λ (ss : List Step). (s : Step) → slice_get ss j ≡ Some s → number ≤ s.command) whole here)
    in
    record { within = most; before = first; behind = subst (λ (ss : List Step). All Q (drop j ss)) (sym whole) behind }

module _ (job : Job) (law : DependsOnInput job.program) (n : ℕ) (key : List ℕ) (files : List File) (d : FoundEntry) (number : ℕ) (read : IsOnlyRead number job.program.commands)
    (found : FindsChanged n key d (found_for job number) (found_for (record job { files = files }) number) job.program) (log : List Message) where
  at : number ≡ 0 + length read.front
  at = omega (arith, read.at)

  finds : FindsChanged n key d (found_for job (0 + length read.front)) (found_for (record job { files = files }) (0 + length read.front)) job.program
  finds =
      subst (λ (k : ℕ). FindsChanged n key d (found_for job k) (found_for (record job { files = files }) k) job.program) at found

  abbrev pub at_first : Difference
  at_first = first_of job.program (with_blank_variables job.program d)

  -- The run over the other files is beside the old one, if each SORT after READ gives both the same order.
  pub runs_beside : (last : Difference) (us : List Step) → AreBeside job.program key at_first (commands_run job log).seen us last →
      ((k : ℕ) (c : Command) → number < k → slice_get job.program.commands k ≡ Some c → c.action ≡ Sort → SortsAt job log n key k at_first us) →
      commands_run (record job { files = files }) log ≡ recorded (beside n last (commands_run job log).course) us
  runs_beside last us is sorts =
      commands_run_beside job law n key files d read.front read.first finds read.line read.back read.behind read.are log last us is
      (λ k c lt. sorts k c (omega (arith, lt, read.at)))

  -- A SORT after READ, and the first ITERATE after it: what its step for the entry says of the order.
  module _ (goes : (commands_run job log).course.stopped ≡ false) (k m : ℕ) (after : number < k) (two : IsSortAndIterate job.program.commands k m) (o : Difference) (i : ℕ) (s : Step) (here : slice_get (commands_run job log).seen i ≡ Some s) (of : s.command ≡ m) (is : IsStep job.program s) (own : is_for key s ≡ true) where
    -- The sort key is the old one.
    pub keeps_order : (e : Entry) → s.input.entry ≡ Some e → sort_key o.entry ≡ sort_key e → SortsAlike n o (run_before job log k)
    keeps_order e entry same =
        sorts_still job law n key files d read.front read.first finds read.line read.back read.behind read.are log goes k m two.sort two.next.command two.next.iterates.target (omega (arith, after, read.at)) two.below two.at two.sorts two.next.at two.next.iterates.is two.next.keep o i s here of is own e entry same

    -- It fits between those of the neighbours.
    pub keeps_place : FitsBetween (commands_run job log).seen m i (sort_key o.entry) → SortsAlike n o (run_before job log k)
    keeps_place fits =
        sorts_between job law n key files d read.front read.first finds read.line read.back read.behind read.are log goes k m two.sort two.next.command two.next.iterates.target (omega (arith, after, read.at)) two.below two.at two.sorts two.next.at two.next.iterates.is two.next.keep o i s here of is own fits
