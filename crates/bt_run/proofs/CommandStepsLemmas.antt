-- Which steps of a run are of which commands.
use Rattle.std.specs.Prelude.{reverse, slice_get}
use Rattle.std.proofs.Common.{◌≡◌, refl, ap, ℕ, zero, suc, ◌+◌, ◌<◌, ◌≤◌, Bool, true, false, List, [], ◌∷◌, ◌++◌, length, take, drop, All, Option, Some, None, arith}
use Rattle.std.proofs.lemmas.List.Elements.{All-push, All-tail}
use Rattle.bt_style.specs.declared.style.Action.{Action}
use Rattle.bt_style.specs.declared.style.Action.TheVariants.{Entry as Entries, Execute, Function, Integers, Iterate, Macro, Read, Reverse, Sort, Strings}
use Rattle.bt_style.specs.declared.style.Command.{Command}
use Rattle.bt_style.specs.declared.style.Target.{Target}
use Rattle.bt_style.specs.Program.{Program}
use Rattle.bt_machine.specs.declared.input.Input.{Input}
use Rattle.bt_machine.specs.Step.{Own, own, step}
use Rattle.bt_run.specs.declared.course.CommandPlace.{CommandPlace}
use Rattle.bt_run.specs.declared.course.Step.{Step}
use Rattle.bt_run.specs.Commands.{carried_out, commands_from, iterated}
use Rattle.bt_run.specs.Course.{Recorded, course_world, input_at, step_kept, stepped}
use Rattle.bt_run.specs.ReadCommand.{Job}
use Rattle.bt_run.specs.inner.Cases.{command, site_of, unless_stopped}
use Rattle.bt_run.proofs.BesideLemmas.{app}

-- something holds of all steps of a command
abbrev pub HoldsOf : (Step → Type 0) → ℕ → Type 0
HoldsOf P number = (i : Input) (o : Own) → P (step_kept number i o)

-- what holds of all steps that were seen holds of all after this one
abbrev pub AllSeen : (Step → Type 0) → Recorded (List Step) → Type 0
AllSeen P q = All P q.seen

stepped_all : (P : Step → Type 0) (p : Program) (site : CommandPlace) (t : Target) (x : Option ℕ) (q : Recorded (List Step)) → HoldsOf P site.command → AllSeen P q → AllSeen P (stepped app p site t x q)
stepped_all P p site t x q h all =
    let w = course_world q.course in
    let o = own x w (step p x t w) in
    All-push P q.seen (step_kept site.command (input_at t x w) o) all (h (input_at t x w) o)

pub unless_all : (P : Step → Type 0) (b : Bool) (q next : Recorded (List Step)) → AllSeen P q → AllSeen P next → AllSeen P (unless_stopped b q next)
unless_all P true q next h g = h
unless_all P false q next h g = g

pub iterated_all : (P : Step → Type 0) (p : Program) (site : CommandPlace) (t : Target) (places : List ℕ) (q : Recorded (List Step)) → HoldsOf P site.command → AllSeen P q → AllSeen P (iterated app p site t places q)
iterated_all P p site t [] q h all = all
iterated_all P p site t (m ∷ ms) q h all =
    let next = stepped app p site t (Some m) q in
    iterated_all P p site t ms (unless_stopped q.course.stopped q next) h (unless_all P q.course.stopped q next all (stepped_all P p site t (Some m) q h all))

carried_all : (P : Step → Type 0) (job : Job) (number line : ℕ) (a : Action) (q : Recorded (List Step)) → HoldsOf P number → AllSeen P q → AllSeen P (carried_out app job number line a q)
carried_all P job number line Entries q h all = all
carried_all P job number line (Execute t) q h all = stepped_all P job.program (site_of job number line) t None q h all
carried_all P job number line (Function n) q h all = all
carried_all P job number line Integers q h all = all
carried_all P job number line (Iterate t) q h all = iterated_all P job.program (site_of job number line) t q.course.order q h all
carried_all P job number line (Macro n) q h all = all
carried_all P job number line Read q h all = all
carried_all P job number line (Reverse t) q h all =
    iterated_all P job.program (site_of job number line) t (reverse q.course.order) q h all
carried_all P job number line Sort q h all = all
carried_all P job number line Strings q h all = all

-- What holds of each step of these commands holds of all steps after them, if it held of those before.
pub commands_all : (P : Step → Type 0) (job : Job) (number : ℕ) (cs : List Command) (q : Recorded (List Step)) → ((k : ℕ) → number ≤ k → k < number + length cs → (i : Input) (o : Own) → P (step_kept k i o)) → AllSeen P q → AllSeen P (commands_from app job number cs q)
commands_all P job number [] q h all = all
commands_all P job number (c ∷ cs) q h all =
    let next = carried_out app job number c.line c.action q in
    let here : HoldsOf P number = h number (omega arith) (omega arith) in
    commands_all P job (suc number) cs (command app job number c q) (λ k low high. h k (omega (arith, low)) (omega (arith, high)))
    (unless_all P q.course.stopped q next all (carried_all P job number c.line c.action q here all))

-- Two lists of steps, of commands below a number and of others: a place with the same on both sides is where they meet.
pub meet_at : (as' bs : List Step) (number j : ℕ) → All (λ (s : Step). s.command < number) as' → All (λ (s : Step). number ≤ s.command) bs → j ≤ length (as' ++ bs) →
    All (λ (s : Step). s.command < number) (take j (as' ++ bs)) → All (λ (s : Step). number ≤ s.command) (drop j (as' ++ bs)) →
    (take j (as' ++ bs) ≡ as') × (drop j (as' ++ bs) ≡ bs)
meet_at [] bs number zero below above most first behind = (refl, refl)
meet_at [] [] number (suc j) below above most first behind = absurd (omega (arith, most))
meet_at [] (b ∷ bs) number (suc j) below above most first behind =
    let low : b.command < number = first 0 b (omega arith) in
    let high : number ≤ b.command = above 0 b (omega arith) in
    absurd (omega (arith, low, high))
meet_at (a ∷ as') bs number zero below above most first behind =
    let low : a.command < number = below 0 a (omega arith) in
    let high : number ≤ a.command = behind 0 a (omega arith) in
    absurd (omega (arith, low, high))
meet_at (a ∷ as') bs number (suc j) below above most first behind =
    let is_below : Step → Type 0 = λ (s : Step). s.command < number in
    let rest = meet_at as' bs number j (All-tail is_below a as' below) above (omega (arith, most)) (All-tail is_below a (take j (as' ++ bs)) first) behind in
    (ap (λ (ss : List Step). a ∷ ss) rest.0, rest.1)

-- A place before which all commands are below a number, and at which one isn't, or the end: there they meet.
pub behind_first : (as' bs : List Step) (number j : ℕ) → All (λ (s : Step). s.command < number) as' → All (λ (s : Step). number ≤ s.command) bs → j ≤ length (as' ++ bs) →
    All (λ (s : Step). s.command < number) (take j (as' ++ bs)) → ((s : Step) → slice_get (as' ++ bs) j ≡ Some s → number ≤ s.command) →
    All (λ (s : Step). number ≤ s.command) (drop j (as' ++ bs))
behind_first [] bs number zero below above most first here = above
behind_first [] [] number (suc j) below above most first here = absurd (omega (arith, most))
behind_first [] (b ∷ bs) number (suc j) below above most first here =
    let low : b.command < number = first 0 b (omega arith) in
    let high : number ≤ b.command = above 0 b (omega arith) in
    absurd (omega (arith, low, high))
behind_first (a ∷ as') bs number zero below above most first here =
    let low : a.command < number = below 0 a (omega arith) in
    let high : number ≤ a.command = here a refl in
    absurd (omega (arith, low, high))
behind_first (a ∷ as') bs number (suc j) below above most first here =
    let is_below : Step → Type 0 = λ (s : Step). s.command < number in
    behind_first as' bs number j (All-tail is_below a as' below) above (omega (arith, most)) (All-tail is_below a (take j (as' ++ bs)) first) here
