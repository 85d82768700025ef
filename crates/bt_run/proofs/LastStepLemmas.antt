-- A run whose last step doesn't stop it wasn't stopped.
use Rattle.std.specs.Prelude.{reverse, slice_get, slice_index_or}
use Rattle.std.proofs.Common.{◌≡◌, refl, sym, ap, ◌∙◌, ℕ, suc, ◌+◌, Bool, true, false, List, [], ◌∷◌, ◌++◌, length, Option, Some, None, arith}
use Rattle.std.proofs.Math.Seq.{get_or-append_seam}
use Rattle.std.proofs.lemmas.List.{length-append}
use Rattle.std.proofs.lemmas.Option.{get_or_from_slice_get}
use Rattle.bt_style.specs.declared.style.Action.{Action}
use Rattle.bt_style.specs.declared.style.Action.TheVariants.{Entry as Entries, Execute, Function, Integers, Iterate, Macro, Read, Reverse, Sort, Strings}
use Rattle.bt_style.specs.declared.style.Command.{Command}
use Rattle.bt_style.specs.declared.style.Target.{Target}
use Rattle.bt_style.specs.Program.{Program}
use Rattle.bt_machine.specs.Step.{own, step}
use Rattle.bt_log.specs.declared.message.Message.{Message}
use Rattle.bt_run.specs.declared.course.CommandPlace.{CommandPlace}
use Rattle.bt_run.specs.declared.course.Step.{Step}
use Rattle.bt_run.specs.Commands.{carried_out, commands_from, iterated}
use Rattle.bt_run.specs.Course.{Recorded, course_world, input_at, step_kept, stepped}
use Rattle.bt_run.specs.Meaning.{first_globals, run_begun}
use Rattle.bt_run.specs.ReadCommand.{Job}
use Rattle.bt_run.specs.inner.Beside.{commands_run}
use Rattle.bt_run.specs.inner.WalkContext.{LastGoes}
use Rattle.bt_run.specs.inner.Cases.{command, site_of, unless_stopped}
use Rattle.bt_run.proofs.BesideLemmas.{app}

-- If the last step doesn't stop it, a run isn't stopped.
abbrev GoesByLast : Recorded (List Step) → Type 0
GoesByLast q =
    (n : ℕ) (s : Step) → n + 1 ≡ length q.seen → slice_get q.seen n ≡ Some s → s.outcome.stop ≡ false → q.course.stopped ≡ false

last_is : (ss : List Step) (made s : Step) (n : ℕ) → n + 1 ≡ length (ss ++ made ∷ []) → slice_get (ss ++ made ∷ []) n ≡ Some s → made ≡ s
last_is ss made s n last at =
    let all = ss ++ made ∷ [] in
    let here : n ≡ length ss = omega (arith, last, length-append ss (made ∷ [])) in
    sym (get_or-append_seam ss made [] s)
    ∙ ap (λ (i : ℕ). slice_index_or all i s) (sym here)
    ∙ get_or_from_slice_get all n s s at

step_last : (p : Program) (site : CommandPlace) (t : Target) (x : Option ℕ) (q : Recorded (List Step)) → GoesByLast (stepped app p site t x q)
step_last p site t x q = λ n s last at goes.
    let w = course_world q.course in
    let made : Step = step_kept site.command (input_at t x w) (own x w (step p x t w)) in
    ap (λ (u : Step). u.outcome.stop) (last_is q.seen made s n last at) ∙ goes

unless_last : (b : Bool) (q next : Recorded (List Step)) → GoesByLast q → GoesByLast next → GoesByLast (unless_stopped b q next)
unless_last true q next h g = h
unless_last false q next h g = g

iterated_last : (p : Program) (site : CommandPlace) (t : Target) (ms : List ℕ) (q : Recorded (List Step)) → GoesByLast q → GoesByLast (iterated app p site t ms q)
iterated_last p site t [] q h = h
iterated_last p site t (m ∷ ms) q h =
    let next = stepped app p site t (Some m) q in
    iterated_last p site t ms (unless_stopped q.course.stopped q next) (unless_last q.course.stopped q next h (step_last p site t (Some m) q))

action_last : (job : Job) (number line : ℕ) (a : Action) (q : Recorded (List Step)) → GoesByLast q → GoesByLast (carried_out app job number line a q)
action_last job number line Entries q h = h
action_last job number line (Execute t) q h = step_last job.program (site_of job number line) t None q
action_last job number line (Function n) q h = h
action_last job number line Integers q h = h
action_last job number line (Iterate t) q h = iterated_last job.program (site_of job number line) t q.course.order q h
action_last job number line (Macro n) q h = h
action_last job number line Read q h = h
action_last job number line (Reverse t) q h = iterated_last job.program (site_of job number line) t (reverse q.course.order) q h
action_last job number line Sort q h = h
action_last job number line Strings q h = h

commands_last : (job : Job) (number : ℕ) (cs : List Command) (q : Recorded (List Step)) → GoesByLast q → GoesByLast (commands_from app job number cs q)
commands_last job number [] q h = h
commands_last job number (c ∷ cs) q h =
    let next = carried_out app job number c.line c.action q in
    commands_last job (suc number) cs (command app job number c q) (unless_last q.course.stopped q next h (action_last job number c.line c.action q h))

pub run_goes_on : (job : Job) (log : List Message) → LastGoes (commands_run job log).seen → (commands_run job log).course.stopped ≡ false
run_goes_on job log last =
    commands_last job 0 job.program.commands (run_begun (first_globals job.program) log) (λ n s is at goes. refl) last.number last.last last.count last.at last.goes
