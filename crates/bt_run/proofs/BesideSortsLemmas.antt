-- Commands without READ beside another run.
use Rattle.std.specs.Prelude.{reverse}
use Rattle.std.proofs.Common.{◌≡◌, ◌<◌, refl, sym, ap, ◌∙◌, subst, ℕ, suc, ◌+◌, Bool, true, false, List, [], ◌∷◌, ◌++◌, length, take, arith}
use Rattle.std.proofs.lemmas.List.{append_assoc, length-append}
use Rattle.std.proofs.lemmas.List.Elements.{All-head, All-tail}
use Rattle.bt_style.specs.declared.style.Action.{Action}
use Rattle.bt_style.specs.declared.style.Action.TheVariants.{Entry as Entries, Execute, Function, Integers, Iterate, Macro, Read, Reverse, Sort, Strings}
use Rattle.bt_style.specs.declared.style.Command.{Command}
use Rattle.bt_machine.specs.OwnEntry.{DependsOnInput}
use Rattle.bt_job.specs.declared.files.File.{File}
use Rattle.bt_run.specs.declared.course.Course.{Course}
use Rattle.bt_run.specs.declared.course.Step.{Step}
use Rattle.bt_run.specs.Commands.{carried_out, commands_from}
use Rattle.bt_run.specs.Course.{Recorded}
use Rattle.bt_run.specs.ReadCommand.{Job}
use Rattle.bt_run.specs.SortCommand.{key_at}
use Rattle.bt_run.specs.inner.Beside.{AreBeside, AreSortsAlike, Difference, Fits, SortsAlike, beside}
use Rattle.bt_run.specs.inner.WalkContext.{AreReadless, is_read}
use Rattle.bt_run.specs.inner.Cases.{command, site_of, sorted_run, unless_stopped}
use Rattle.bt_run.specs.inner.Course.{recorded}
use Rattle.bt_run.proofs.BesideLemmas.{all_beside, all_reversed, app, commands_add, joined, none_beside, one_beside, parted}
use Rattle.bt_run.proofs.BesideSortLemmas.{sorted_beside}
use Rattle.bt_run.proofs.KeptBesideLemmas.{beside_length}
use Rattle.bt_run.proofs.SortingLemmas.{arranged_sorted}

pub take_behind : {X : Type 0} (xs ys : List X) (k : ℕ) → take (length xs + k) (xs ++ ys) ≡ xs ++ take k ys
take_behind [] ys k =
    let same : 0 + k ≡ k = omega arith in
    ap (λ (i : ℕ). take i ys) same
take_behind (x ∷ xs) ys k =
    let same : suc (length xs) + k ≡ suc (length xs + k) = omega arith in
    ap (λ (i : ℕ). take i (x ∷ (xs ++ ys))) same ∙ (λ j. x ∷ take_behind xs ys k j)

module _ (job : Job) (law : DependsOnInput job.program) (n : ℕ) (key : List ℕ) (files : List File) where
  abbrev other_files : Job
  other_files = record job { files = files }

  -- SORTs after the steps of a run so far, by where the runs differ after them
  pub sorts_behind : (number : ℕ) (cs : List Command) (q : Recorded (List Step)) (o mid : Difference) (us first second : List Step) → us ≡ first ++ second → AreBeside job.program key o q.seen first mid → AreSortsAlike job n key number cs q o us → AreSortsAlike job n key number cs (recorded q.course []) mid second
  sorts_behind number cs q o mid us first second whole before alike = λ xs ys line last split goes behind.
      let next = commands_from app job number xs (recorded q.course []) in
      let all : commands_from app job number xs q ≡ recorded next.course (q.seen ++ next.seen) = commands_add job number xs q.course q.seen in
      let count : length (q.seen ++ next.seen) ≡ length first + length next.seen = omega (arith, length-append q.seen next.seen, beside_length job.program key q.seen first o mid before) in
      let news : take (length (q.seen ++ next.seen)) us ≡ first ++ take (length next.seen) second =
      ap (take (length (q.seen ++ next.seen))) whole ∙ ap (λ (k : ℕ). take k (first ++ second)) count ∙ take_behind first second (length next.seen)
      in
      let both = joined job.program key q.seen next.seen first (take (length next.seen) second) o mid last before behind in
      let there : AreBeside job.program key o (q.seen ++ next.seen) (take (length (q.seen ++ next.seen)) us) last =
      subst (λ (vs : List Step). AreBeside job.program key o (q.seen ++ next.seen) vs last) (sym news) both
      in
      subst (λ (r : Recorded (List Step)). SortsAlike n last r.course) all
      (alike xs ys line last split (ap (λ (r : Recorded (List Step)). r.course.stopped) all ∙ goes)
      (subst (λ (r : Recorded (List Step)). AreBeside job.program key o r.seen (take (length r.seen) us) last) (sym all) there))

  -- SORTs after a command
  sorts_next : (number : ℕ) (c : Command) (cs : List Command) (q : Recorded (List Step)) (o : Difference) (us : List Step) → AreSortsAlike job n key number (c ∷ cs) q o us → AreSortsAlike job n key (suc number) cs (command app job number c q) o us
  sorts_next number c cs q o us alike = λ xs ys line last split.
      alike (c ∷ xs) ys line last (ap (λ (ds : List Command). c ∷ ds) split)

  sorts_here : (number : ℕ) (c : Command) (cs : List Command) (r : Course) (o : Difference) (us : List Step) → AreSortsAlike job n key number (c ∷ cs) (recorded r []) o us → r.stopped ≡ false → c.action ≡ Sort → SortsAlike n o r
  sorts_here number c cs r o us alike goes sorts =
      let is : c ≡ record { action = Sort; line = c.line } = λ j. record { action = sorts j; line = c.line } in
      alike [] cs c.line o (ap (λ (d : Command). d ∷ cs) is) goes refl

  -- what holds of a run from a course on
  abbrev Holds : (Recorded (List Step) → Recorded (List Step)) → (Recorded (List Step) → Recorded (List Step)) → Course → Difference → Difference → List Step → List Step → Type 0
  Holds run other r o last seen us =
      (other (recorded (beside n o r) seen) ≡ recorded (beside n last (run (recorded r [])).course) (seen ++ us))
      × Fits n key (run (recorded r [])).course

  sort_holds : (number line : ℕ) (r : Course) (o last : Difference) (seen us : List Step) → Fits n key r → AreBeside job.program key o [] us last → SortsAlike n o r → Holds (carried_out app job number line Sort) (carried_out app other_files number line Sort) r o last seen us
  sort_holds number line r o last seen us f is alike =
      let now : Fits n key (sorted_run r) = record { keyed = f.keyed; ordered = arranged_sorted (key_at r.entries) (length r.entries) } in
      let rest = none_beside job.program n key (sorted_run r) o last seen us now is in
      (ap (λ (c : Course). recorded c seen) (sorted_beside n o r alike) ∙ rest.0, rest.1)

  action_holds : (number line : ℕ) (a : Action) → is_read a ≡ false → (r : Course) (o last : Difference) (seen us : List Step) → Fits n key r → AreBeside job.program key o (carried_out app job number line a (recorded r [])).seen us last → (a ≡ Sort → SortsAlike n o r) → Holds (carried_out app job number line a) (carried_out app other_files number line a) r o last seen us
  action_holds number line Entries less r o last seen us f is alike = none_beside job.program n key r o last seen us f is
  action_holds number line (Execute t) less r o last seen us f is alike =
      one_beside job.program law (site_of job number line) t n key r o last seen us f is
  action_holds number line (Function k) less r o last seen us f is alike = none_beside job.program n key r o last seen us f is
  action_holds number line Integers less r o last seen us f is alike = none_beside job.program n key r o last seen us f is
  action_holds number line (Iterate t) less r o last seen us f is alike =
      all_beside job.program law (site_of job number line) t n key r.order r f.ordered.below o last seen us f is
  action_holds number line (Macro k) less r o last seen us f is alike = none_beside job.program n key r o last seen us f is
  action_holds number line Read less r o last seen us f is alike = absurd cc
  action_holds number line (Reverse t) less r o last seen us f is alike =
      all_beside job.program law (site_of job number line) t n key (reverse r.order) r (all_reversed (λ m. m < length r.entries) r.order f.ordered.below) o last seen us f is
  action_holds number line Sort less r o last seen us f is alike = sort_holds number line r o last seen us f is (alike refl)
  action_holds number line Strings less r o last seen us f is alike = none_beside job.program n key r o last seen us f is

  command_unless : (b : Bool) (number line : ℕ) (a : Action) → is_read a ≡ false → (r : Course) (o last : Difference) (seen us : List Step) → Fits n key r → AreBeside job.program key o (unless_stopped b (recorded r []) (carried_out app job number line a (recorded r []))).seen us last → (b ≡ false → a ≡ Sort → SortsAlike n o r) →
      Holds (λ q. unless_stopped b q (carried_out app job number line a q)) (λ q. unless_stopped b q (carried_out app other_files number line a q)) r o last seen us
  command_unless true number line a less r o last seen us f is alike = none_beside job.program n key r o last seen us f is
  command_unless false number line a less r o last seen us f is alike = action_holds number line a less r o last seen us f is (alike refl)

  -- Commands without READ, whose SORTs give both runs the same order.
  pub commands_beside : (number : ℕ) (cs : List Command) → AreReadless cs → (r : Course) (o last : Difference) (seen us : List Step) → Fits n key r → AreBeside job.program key o (commands_from app job number cs (recorded r [])).seen us last → AreSortsAlike job n key number cs (recorded r []) o us →
      Holds (commands_from app job number cs) (commands_from app other_files number cs) r o last seen us
  commands_beside number [] less r o last seen us f is alike = none_beside job.program n key r o last seen us f is
  commands_beside number (c ∷ cs) less r o last seen us f is alike =
      let readless : Command → Type 0 = λ (d : Command). is_read d.action ≡ false in
      let p = job.program in
      let q = command app job number c (recorded r []) in
      let next = commands_from app job (suc number) cs (recorded q.course []) in
      let whole : commands_from app job (suc number) cs q ≡ recorded next.course (q.seen ++ next.seen) = commands_add job (suc number) cs q.course q.seen in
      let parts = parted p key q.seen next.seen us o last (subst (λ (x : Recorded (List Step)). AreBeside p key o x.seen us last) whole is) in
      let one = command_unless r.stopped number c.line c.action (All-head readless c cs less) r o parts.mid seen parts.first f parts.before (sorts_here number c cs r o us alike) in
      let later = sorts_behind (suc number) cs q o parts.mid us parts.first parts.second parts.whole parts.before (sorts_next number c cs (recorded r []) o us alike) in
      let two = commands_beside (suc number) cs (All-tail readless c cs less) q.course parts.mid last (seen ++ parts.first) parts.second one.1 parts.behind later in
      let steps = append_assoc seen parts.first parts.second ∙ ap (λ (vs : List Step). seen ++ vs) (sym parts.whole) in
      let there = ap (commands_from app other_files (suc number) cs) one.0 ∙ two.0 ∙ (λ j. recorded (beside n last (sym whole j).course) (steps j)) in
      (there, subst (λ (x : Recorded (List Step)). Fits n key x.course) (sym whole) two.1)
