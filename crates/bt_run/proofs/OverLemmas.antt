-- What a recorder sees is a function of the steps where each step keeps it so: then the runs are the same.
use Rattle.std.proofs.Common.{◌≡◌, ◌∙◌, ap, refl, ℕ, suc, List, [], ◌∷◌, Bool, true, false, Option, Some, None}
use Rattle.std.specs.Prelude.{reverse}
use Rattle.bt_style.specs.declared.style.Target.{Target}
use Rattle.bt_style.specs.declared.style.Command.{Command}
use Rattle.bt_style.specs.declared.style.Action.{Action}
use Rattle.bt_style.specs.declared.style.Action.TheVariants.{Entry, Execute, Function, Integers, Iterate, Macro, Read, Reverse, Sort, Strings}
use Rattle.bt_style.specs.Program.{Program}
use Rattle.bt_machine.specs.Step.{step, own}
use Rattle.bt_run.specs.declared.course.CommandPlace.{CommandPlace}
use Rattle.bt_run.specs.declared.course.Step.{Step}
use Rattle.bt_run.specs.Course.{Recorded, course_world, input_at, step_kept, stepped}
use Rattle.bt_run.specs.ReadCommand.{Job}
use Rattle.bt_run.specs.Commands.{iterated, carried_out, commands_from}
use Rattle.bt_run.specs.inner.Cases.{site_of, unless_stopped, command}
use Rattle.bt_run.specs.inner.Course.{recorded}

module _ {S T : Type 0} (f : S → Step → S) (g : T → Step → T) (h : T → S) (step_over : (t : T) (s : Step) → f (h t) s ≡ h (g t s)) where
  over : Recorded T → Recorded S
  over r = recorded r.course (h r.seen)

  unless_over : (b : Bool) (r next : Recorded T) (other : Recorded S) → other ≡ over next → unless_stopped b (over r) other ≡ over (unless_stopped b r next)
  unfolding over
  unless_over true r next other is = refl
  unless_over false r next other is = is

  stepped_over : (p : Program) (site : CommandPlace) (t : Target) (x : Option ℕ) (r : Recorded T) → stepped f p site t x (over r) ≡ over (stepped g p site t x r)
  unfolding over
  stepped_over p site t x r =
      let w = course_world r.course in
      ap (λ s. recorded (stepped g p site t x r).course s) (step_over r.seen (step_kept site.command (input_at t x w) (own x w (step p x t w))))

  iterated_over : (p : Program) (site : CommandPlace) (t : Target) (places : List ℕ) (r : Recorded T) → iterated f p site t places (over r) ≡ over (iterated g p site t places r)
  unfolding over
  iterated_over p site t [] r = refl
  iterated_over p site t (n ∷ ns) r =
      ap (λ s. iterated f p site t ns s) (unless_over r.course.stopped r (stepped g p site t (Some n) r) _ (stepped_over p site t (Some n) r))
      ∙ iterated_over p site t ns (unless_stopped r.course.stopped r (stepped g p site t (Some n) r))

  carried_over : (job : Job) (number line : ℕ) (a : Action) (r : Recorded T) → carried_out f job number line a (over r) ≡ over (carried_out g job number line a r)
  unfolding over
  carried_over job number line Entry r = refl
  carried_over job number line (Execute t) r = stepped_over job.program (site_of job number line) t None r
  carried_over job number line (Function n) r = refl
  carried_over job number line Integers r = refl
  carried_over job number line (Iterate t) r = iterated_over job.program (site_of job number line) t r.course.order r
  carried_over job number line (Macro n) r = refl
  carried_over job number line Read r = refl
  carried_over job number line (Reverse t) r = iterated_over job.program (site_of job number line) t (reverse r.course.order) r
  carried_over job number line Sort r = refl
  carried_over job number line Strings r = refl

  pub commands_over : (job : Job) (number : ℕ) (cs : List Command) (r : Recorded T) → commands_from f job number cs (recorded r.course (h r.seen)) ≡ recorded (commands_from g job number cs r).course (h (commands_from g job number cs r).seen)
  unfolding over
  commands_over job number [] r = refl
  commands_over job number (c ∷ cs) r =
      ap (λ s. commands_from f job (suc number) cs s) (unless_over r.course.stopped r (carried_out g job number c.line c.action r) _ (carried_over job number c.line c.action r))
      ∙ commands_over job (suc number) cs (command g job number c r)

  -- the same of a command's steps
  pub iterated_so : (p : Program) (site : CommandPlace) (t : Target) (places : List ℕ) (r : Recorded T) → iterated f p site t places (recorded r.course (h r.seen)) ≡ recorded (iterated g p site t places r).course (h (iterated g p site t places r).seen)
  unfolding over
  iterated_so p site t places r = iterated_over p site t places r
