use Rattle.std.proofs.Common.{◌≡◌, ◌∙◌, ap, sym, subst}
use Rattle.bt_style.specs.Program.{program_of}
use Rattle.bt_run.specs.declared.course.Step.{Step}
use Rattle.bt_run.specs.Course.{step_kept}
use Rattle.bt_run.specs.inner.Work.{step_now, IsNext}
use Rattle.bt_run.proofs.kept_steps.KeptSteps.make_step.Goals as goal

pub returns-clause-next : goal.returns-clause-next
returns-clause-next c =
    let p = program_of c.args.command.job.style.now in
    let i = c.args.input in
    let done = c.in_ok-outcome.field-0 in
    let command = c.args.command.site.now.command in
    let told = c.in_ok-outcome.ensures in
    let made : c.in_ok-step.step ≡ step_now command i done.outcome done.cost = c.in_ok-step.ensures ∙ c.in_ok-made.ensures in
    subst (λ (s : Step). IsNext p c.args.command.job.earlier.now.steps s c.args.self.now.reuse c.take_over_or_carry_out.new.reuse) (sym made) (record {
      step = record { is = λ j. step_kept command i (record { outcome = told.outcome j; cost = told.cost j }) };
      counted = told.counted;
      within = told.within;
      known = told.known;
      indexed = told.indexed;
    })

pub returns-clause-command : goal.returns-clause-command
returns-clause-command c = ap (λ (s : Step). s.command) (c.in_ok-step.ensures ∙ c.in_ok-made.ensures)

pub returns-clause-input : goal.returns-clause-input
returns-clause-input c = ap (λ (s : Step). s.input) (c.in_ok-step.ensures ∙ c.in_ok-made.ensures)
