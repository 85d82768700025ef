use Rattle.std.proofs.Common.{refl, sym, ap, ◌∙◌, subst, ◌+◌}
use Rattle.bt_style.specs.Program.{program_of}
use Rattle.bt_run.specs.declared.course.Step.{Step}
use Rattle.bt_run.specs.declared.reuse.Reuse.{Reuse}
use Rattle.bt_run.specs.Course.{key_in}
use Rattle.bt_run.specs.inner.Marks.{step_tag, tag_of}
use Rattle.bt_run.specs.inner.Turn.{IsSharedFrom}
use Rattle.bt_run.specs.inner.Work.{IsNext}
use Rattle.bt_run.proofs.TurnLemmas.{found_in}
use Rattle.bt_run.proofs.WorkLemmas.{met_again}
use Rattle.bt_run.proofs.kept_steps.KeptSteps.next_step.Goals as goal

pub returns-in_ok-step-in-Some-clause-next : goal.returns-in_ok-step-in-Some-clause-next
returns-in_ok-step-in-Some-clause-next c =
    let job = c.args.command.job in
    let p = program_of job.style.now in
    let reuse = c.args.self.now.reuse in
    let after : Reuse = record reuse { next = reuse.next + 1 } in
    subst (λ (s : Step). IsNext p job.earlier.now.steps s reuse after) (sym c.in_ok-step-in-Some.ensures)
    (met_again p job.earlier.now.steps c.in-Some.again.step.now reuse after job.steps (found_in job.earlier.now.steps reuse.next c.in-Some.again.step.now c.in-Some.ensures.at.at) c.requires.consistent.work.known c.requires.consistent.work.indexed refl)

pub returns-in_ok-step-in-Some-clause-tag : goal.returns-in_ok-step-in-Some-clause-tag
returns-in_ok-step-in-Some-clause-tag c =
    c.in-Some.ensures.at.mark.tagged ∙ ap step_tag (sym c.in_ok-step-in-Some.ensures)

pub returns-in_ok-step-in-Some-clause-shared : goal.returns-in_ok-step-in-Some-clause-shared
returns-in_ok-step-in-Some-clause-shared c = λ go.
    let steps = c.args.command.job.earlier.now.steps in
    let next = c.args.self.now.reuse.next in
    subst (λ (s : Step). IsSharedFrom steps s next (next + 1)) (sym c.in_ok-step-in-Some.ensures) (record { at = c.in-Some.ensures.at.at; on = refl })

pub returns-in_ok-step-in-None-clause-tag : goal.returns-in_ok-step-in-None-clause-tag
returns-in_ok-step-in-None-clause-tag c =
    c.tag_of-tag.ensures ∙ (λ j. tag_of (sym c.in_ok-step-in-None.ensures.command j) (key_in (sym c.in_ok-step-in-None.ensures.input j)))
