use Rattle.std.proofs.Common.{ap, sym, ◌∙◌, ◌++◌, [], ◌∷◌, List, subst}
use Rattle.std.specs.Option.{ForSome}
use Rattle.bt_style.specs.Program.{program_of}
use Rattle.bt_run.specs.declared.kept_steps.KeptSteps.{KeptSteps}
use Rattle.bt_run.specs.declared.course.Step.{Step}
use Rattle.bt_run.specs.inner.Calls.{AreCallsFrom}
use Rattle.bt_run.specs.inner.Course.{put_back}
use Rattle.bt_run.specs.inner.Turn.{IsSharedFrom}
use Rattle.bt_run.proofs.CourseLemmas.{step_taken, consistent_behind, length_back, ordered_back}
use Rattle.bt_run.proofs.kept_steps.KeptStepsRecorder.take_step.Goals as goal

pub count_step-requires : goal.count_step-requires
count_step-requires c = λ go.
    let from = c.args.self.now.reuse.next in
    let next = c.next_step.new.self.reuse.next in
    subst (λ (es : List Step). IsSharedFrom es c.deref-2.result.now from next) (sym c.as_slice-earlier.ensures)
    (subst (λ (s : Step). IsSharedFrom c.args.command.job.earlier.now.steps s from next) (sym c.deref-2.ensures) (c.in_ok-step.ensures.shared go))

pub returns-clause-run : goal.returns-clause-run
returns-clause-run c =
    let p = program_of c.args.command.job.style.now in
    let s = c.in_ok-step.field-0.step in
    let site = c.args.command.site.now in
    step_taken (λ steps t. steps ++ t ∷ []) p (c.step_depends_on_its_input.ensures p) site c.args.target c.args.place c.args.course.now c.args.self.now.steps c.push.new.self c.put_back.new.course s
    c.requires.placed c.in_ok-step.ensures.command c.in_ok-step.ensures.input c.in_ok-step.ensures.next.step
    (c.in_ok-put_back.ensures ∙ ap (λ (t : Step). put_back site c.args.place t.outcome c.args.course.now) c.deref.ensures)
    (c.in_ok-push.ensures.ok ∙ ap (λ (k : KeptSteps). k.steps ++ s ∷ []) c.in_ok-step.ensures.rest)

pub returns-clause-ready : goal.returns-clause-ready
returns-clause-ready c =
    let site = c.args.command.site.now in
    let earlier = c.args.command.job.earlier.now in
    let taken = c.in_ok-step.field-0 in
    let from = c.args.self.now.reuse.next in
    let next = c.next_step.new.self.reuse.next in
    let counted : (ss : List Step) → ForSome c.next_step.new.self.calls (AreCallsFrom earlier.steps from ss) → ForSome c.count_step.new.calls (AreCallsFrom earlier.steps next (ss ++ c.deref-2.result.now ∷ [])) =
    subst (λ (es : List Step). (ss : List Step) → ForSome c.next_step.new.self.calls (AreCallsFrom es from ss) → ForSome c.count_step.new.calls (AreCallsFrom es next (ss ++ c.deref-2.result.now ∷ [])))
    c.as_slice-earlier.ensures c.in_ok-count_step.ensures
    in
    let called : (ss : List Step) → ForSome c.next_step.new.self.calls (AreCallsFrom earlier.steps from ss) → ForSome c.count_step.new.calls (AreCallsFrom earlier.steps next (ss ++ taken.step ∷ [])) =
    λ ss were. subst (λ (s : Step). ForSome c.count_step.new.calls (AreCallsFrom earlier.steps next (ss ++ s ∷ []))) c.deref-2.ensures (counted ss were)
    in
    consistent_behind (program_of c.args.command.job.style.now) earlier site c.args.target c.args.place c.args.course.now c.put_back.new.course taken.step taken.tag taken.shared
    c.args.self.now c.next_step.new.self c.push.new.self c.push-2.new.self c.count_step.new.calls
    c.requires.ready c.requires.placed c.in_ok-step.ensures.input (c.in_ok-put_back.ensures ∙ ap (λ (t : Step). put_back site c.args.place t.outcome c.args.course.now) c.deref.ensures)
    c.in_ok-step.ensures.rest c.in_ok-push.ensures.ok c.in_ok-push-2.ensures.ok c.in_ok-step.ensures.tag c.in_ok-step.ensures.shared called c.in_ok-step.ensures.next

pub returns-clause-ordered : goal.returns-clause-ordered
returns-clause-ordered c = ordered_back c.args.command.site.now c.args.place c.deref.result.now.outcome c.args.course.now c.put_back.new.course c.in_ok-put_back.ensures c.requires.ordered

pub returns-clause-entries : goal.returns-clause-entries
returns-clause-entries c = length_back c.args.command.site.now c.args.place c.deref.result.now.outcome c.args.course.now c.put_back.new.course c.in_ok-put_back.ensures
