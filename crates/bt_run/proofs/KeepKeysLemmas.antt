-- Commands without READ keep all of an entry but its variables.
use Rattle.std.specs.Prelude.{bytes_eq, reverse, slice_index_or}
use Rattle.std.proofs.Common.{◌≡◌, refl, sym, ap, ◌∙◌, subst, ℕ, suc, ◌<◌, Bool, true, false, List, [], ◌∷◌, length, All, Option, Some, None, arith}
use Rattle.std.proofs.lemmas.List.Elements.{All-head, All-tail}
use Rattle.bt_style.specs.declared.style.Action.{Action}
use Rattle.bt_style.specs.declared.style.Action.TheVariants.{Entry as Entries, Execute, Function, Integers, Iterate, Macro, Read, Reverse, Sort, Strings}
use Rattle.bt_style.specs.declared.style.Command.{Command}
use Rattle.bt_style.specs.declared.style.Target.{Target}
use Rattle.bt_actions.specs.declared.entry.Entry.{Entry}
use Rattle.bt_actions.specs.World.{no_entry}
use Rattle.bt_machine.specs.OwnEntry.{DependsOnInput, IsPlace}
use Rattle.bt_run.specs.declared.course.CommandPlace.{CommandPlace}
use Rattle.bt_run.specs.declared.course.Course.{Course}
use Rattle.bt_run.specs.declared.course.Step.{Step}
use Rattle.bt_run.specs.Commands.{carried_out, commands_from, iterated}
use Rattle.bt_run.specs.Course.{Recorded, course_world, stepped}
use Rattle.bt_run.specs.ReadCommand.{Job}
use Rattle.bt_run.specs.SortCommand.{key_at}
use Rattle.bt_run.specs.inner.Beside.{HasKey}
use Rattle.bt_run.specs.inner.WalkContext.{AreReadless, is_read}
use Rattle.bt_run.specs.inner.Cases.{command, site_of, unless_stopped}
use Rattle.bt_run.specs.inner.Course.{IsOrdered}
use Rattle.bt_run.specs.inner.Earlier.{fixed_at}
use Rattle.bt_run.proofs.BesideLemmas.{after, all_reversed, app, own_step, stepped_is}
use Rattle.bt_run.proofs.CourseLemmas.{length-variables_back, ordered_back}
use Rattle.bt_run.proofs.EarlierLemmas.{fixed_back}
use Rattle.bt_run.proofs.SortingLemmas.{arranged_sorted}

-- A course has the entries of another one, but for their variables.
pub record KeepsKeys (r next : Course) : Type 0 where
  pub ordered : IsOrdered next
  pub count : length next.entries ≡ length r.entries
  pub same : (m : ℕ) → fixed_at next.entries m ≡ fixed_at r.entries m

kept_keys : (r : Course) → IsOrdered r → KeepsKeys r r
kept_keys r ordered = record { ordered = ordered; count = refl; same = λ m. refl }

keeps_on : (r mid next : Course) → KeepsKeys r mid → KeepsKeys mid next → KeepsKeys r next
keeps_on r mid next h g =
    record { ordered = g.ordered; count = g.count ∙ h.count; same = λ m. g.same m ∙ h.same m }

pub keyed_after : (n : ℕ) (key : List ℕ) (r next : Course) → KeepsKeys r next → HasKey n key r.entries → HasKey n key next.entries
keyed_after n key r next h keyed =
    let same : (m : ℕ) → bytes_eq (slice_index_or next.entries m no_entry).key key ≡ bytes_eq (slice_index_or r.entries m no_entry).key key = λ m. ap (λ (e : Entry). bytes_eq e.key key) (h.same m) in
    record {
      here = λ lt. same n ∙ keyed.here (omega (arith, lt, h.count));
      apart = λ m lt other. same m ∙ keyed.apart m (omega (arith, lt, h.count)) other;
    }

module _ (job : Job) (law : DependsOnInput job.program) where
  pub step_keeps : (site : CommandPlace) (t : Target) (x : Option ℕ) (q : Recorded (List Step)) → IsOrdered q.course → IsPlace x (course_world q.course) → KeepsKeys q.course (stepped app job.program site t x q).course
  step_keeps site t x q ordered place =
      let p = job.program in
      let s = own_step p law site t x q.course in
      let next = after p law site t x q.course in
      let keeps : KeepsKeys q.course next = record {
        ordered = ordered_back site x s.outcome q.course next refl ordered;
        count = length-variables_back x s.outcome.variables q.course.entries;
        same = λ m. fixed_back x s.outcome.variables q.course.entries m;
      }
      in
      subst (λ (r : Recorded (List Step)). KeepsKeys q.course r.course) (sym (stepped_is p law site t x q.course q.seen place)) keeps

  pub unless_keeps : (b : Bool) (q next : Recorded (List Step)) → IsOrdered q.course → KeepsKeys q.course next.course → KeepsKeys q.course (unless_stopped b q next).course
  unless_keeps true q next ordered h = kept_keys q.course ordered
  unless_keeps false q next ordered h = h

  iterated_keeps : (site : CommandPlace) (t : Target) (ms : List ℕ) (q : Recorded (List Step)) → IsOrdered q.course → All (λ m. m < length q.course.entries) ms → KeepsKeys q.course (iterated app job.program site t ms q).course
  iterated_keeps site t [] q ordered below = kept_keys q.course ordered
  iterated_keeps site t (m ∷ ms) q ordered below =
      let next = stepped app job.program site t (Some m) q in
      let lt = All-head (λ k. k < length q.course.entries) m ms below in
      let one = unless_keeps q.course.stopped q next ordered (step_keeps site t (Some m) q ordered lt) in
      let on = unless_stopped q.course.stopped q next in
      let rest = subst (λ (c : ℕ). All (λ k. k < c) ms) (sym one.count) (All-tail (λ k. k < length q.course.entries) m ms below) in
      keeps_on q.course on.course (iterated app job.program site t ms on).course one (iterated_keeps site t ms on one.ordered rest)

  pub action_keeps : (number line : ℕ) (a : Action) → is_read a ≡ false → (q : Recorded (List Step)) → IsOrdered q.course → KeepsKeys q.course (carried_out app job number line a q).course
  action_keeps number line Entries less q ordered = kept_keys q.course ordered
  action_keeps number line (Execute t) less q ordered = step_keeps (site_of job number line) t None q ordered tt
  action_keeps number line (Function n) less q ordered = kept_keys q.course ordered
  action_keeps number line Integers less q ordered = kept_keys q.course ordered
  action_keeps number line (Iterate t) less q ordered =
      iterated_keeps (site_of job number line) t q.course.order q ordered ordered.below
  action_keeps number line (Macro n) less q ordered = kept_keys q.course ordered
  action_keeps number line Read less q ordered = absurd cc
  action_keeps number line (Reverse t) less q ordered =
      iterated_keeps (site_of job number line) t (reverse q.course.order) q ordered (all_reversed (λ m. m < length q.course.entries) q.course.order ordered.below)
  action_keeps number line Sort less q ordered =
      record { ordered = arranged_sorted (key_at q.course.entries) (length q.course.entries); count = refl; same = λ m. refl }
  action_keeps number line Strings less q ordered = kept_keys q.course ordered

  pub commands_keep_keys : (number : ℕ) (cs : List Command) → AreReadless cs → (q : Recorded (List Step)) → IsOrdered q.course → KeepsKeys q.course (commands_from app job number cs q).course
  commands_keep_keys number [] less q ordered = kept_keys q.course ordered
  commands_keep_keys number (c ∷ cs) less q ordered =
      let readless : Command → Type 0 = λ (d : Command). is_read d.action ≡ false in
      let next = carried_out app job number c.line c.action q in
      let one = unless_keeps q.course.stopped q next ordered (action_keeps number c.line c.action (All-head readless c cs less) q ordered) in
      let on = command app job number c q in
      keeps_on q.course on.course (commands_from app job (suc number) cs on).course one (commands_keep_keys (suc number) cs (All-tail readless c cs less) on one.ordered)
