use Rattle.std.proofs.Common.{◌∙◌, ap}
use Rattle.bt_style.specs.Program.{program_of}
use Rattle.bt_run.specs.inner.Steps.{steps_under}
use Rattle.bt_run.proofs.AnswerLemmas.{lent_style, earlier_steps, nothing_taken, run_taken}
use Rattle.bt_run.proofs.beginning.Beginning.run_asked.Goals as goal

pub invariant_of-job-clause-fields_apart : goal.invariant_of-job-clause-fields_apart
invariant_of-job-clause-fields_apart c =
    let style = c.deref-in-Ok.result.now in
    c.fields_are_apart.ensures c.in_ok-text.text (program_of style) (lent_style c.in_ok-text.text c.in-Ok.style style c.in-Ok.ensures c.deref-in-Ok.ensures)

pub invariant_of-job-clause-steps : goal.invariant_of-job-clause-steps
invariant_of-job-clause-steps c =
    let k = c.args.self.before.kept.now in
    let style = c.deref-in-Ok.result.now in
    let read = lent_style c.in_ok-text.text c.in-Ok.style style c.in-Ok.ensures c.deref-in-Ok.ensures in
    let is = c.as_slice-bytes.ensures ∙ c.deref.ensures in
    earlier_steps (program_of style) c.in_ok-text.text k.text k.steps c.earlier_under-earlier.result.now.steps k.true_steps read
    (c.earlier_under-earlier.ensures.steps ∙ ap (steps_under k.text k.steps) is)

pub returns-in_ok-course-in-Ok-clause-taken : goal.returns-in_ok-course-in-Ok-clause-taken
returns-in_ok-course-in-Ok-clause-taken c =
    let k = c.args.self.before.kept.now in
    let style = c.deref-in-Ok.result.now in
    let read = lent_style c.in_ok-text.text c.in-Ok.style style c.in-Ok.ensures c.deref-in-Ok.ensures in
    let is = c.as_slice-bytes.ensures ∙ c.deref.ensures in
    rw c.new-in-Ok.ensures.text
    (run_taken (program_of style) k.text k.steps c.in_ok-text.text c.earlier_under-earlier.result.now.steps c.carry_out_style.new.steps.steps c.carry_out_style.new.steps.reuse
    read (c.earlier_under-earlier.ensures.steps ∙ ap (steps_under k.text k.steps) is) c.in_ok-course-in-Ok.ensures.work)

pub returns-in_ok-course-in-Err-Fault-clause-taken : goal.returns-in_ok-course-in-Err-Fault-clause-taken
returns-in_ok-course-in-Err-Fault-clause-taken c = nothing_taken c.args.self.before.kept.now.text c.args.self.before.kept.now.steps c.new-in-Err-Fault.result.text c.args.steps.now c.requires.begun
