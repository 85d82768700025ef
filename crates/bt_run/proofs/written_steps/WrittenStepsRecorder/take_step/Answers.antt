use Rattle.std.proofs.Common.{ap, ◌∙◌, ◌++◌, refl}
use Rattle.bt_style.specs.Program.{program_of}
use Rattle.bt_machine.specs.declared.outcome.Outcome.{Outcome}
use Rattle.bt_machine.specs.Step.{step_in, outcome_with}
use Rattle.bt_log.specs.Log.{lines_bytes}
use Rattle.bt_run.specs.declared.course.Step.{Step}
use Rattle.bt_run.specs.Course.{step_kept}
use Rattle.bt_run.specs.inner.Work.{step_now}
use Rattle.bt_run.specs.inner.Written.{written, with_step}
use Rattle.bt_run.proofs.CourseLemmas.{step_taken, back_over_given_up, length_back, ordered_back}
use Rattle.bt_run.proofs.WrittenLemmas.{written_more}
use Rattle.bt_run.proofs.written_steps.WrittenStepsRecorder.take_step.Goals as goal

pub returns-clause-run : goal.returns-clause-run
returns-clause-run c =
    let p = program_of c.args.command.job.style.now in
    let site = c.args.command.site.now in
    let outcome = outcome_with c.in_ok-end.end c.in_ok-end.lines c.run_step.new.tally.calls in
    let back = back_over_given_up p (c.step_depends_on_its_input.ensures p) c.args.target site c.args.place c.args.self.now.others outcome c.lend_input-input.result c.args.course.now c.give_up_variables.new.course c.move_back.new.course
    c.requires.placed c.lend_input-input.ensures (ap (λ (o : Outcome). o.variables) (c.in_ok-end.ensures c.run_step.new.tally ∙ c.in_ok-left.ensures.outcome)) c.in_ok-give_up_variables.ensures (c.in_ok-move_back.ensures c.in_ok-end.lines c.run_step.new.tally.calls) in
    let old = c.args.self.now in
    let input = c.lend_input-input.result in
    let s : Step = step_now site.command input outcome (step_in p input).cost in
    step_taken with_step p (c.step_depends_on_its_input.ensures p) site c.args.target c.args.place c.args.course.now (written old.bbl old.calls) (written c.write_own_lines.new.text c.add_calls.new.sums) c.move_back.new.course s
    c.requires.placed refl c.lend_input-input.ensures (record { is = λ j. step_kept site.command input (record { outcome = (c.in_ok-end.ensures c.run_step.new.tally ∙ c.in_ok-left.ensures.outcome) j; cost = (step_in p input).cost }) })
    back
    (written_more (written old.bbl old.calls) c.write_own_lines.new.text c.add_calls.new.sums s
    (c.in_ok-write_own_lines.ensures ∙ ap (λ lines. old.bbl ++ lines_bytes lines) c.as_slice.ensures) c.in_ok-add_calls.ensures)

pub returns-clause-ordered : goal.returns-clause-ordered
returns-clause-ordered c =
    let p = program_of c.args.command.job.style.now in
    let site = c.args.command.site.now in
    let outcome = outcome_with c.in_ok-end.end c.in_ok-end.lines c.run_step.new.tally.calls in
    let back = back_over_given_up p (c.step_depends_on_its_input.ensures p) c.args.target site c.args.place c.args.self.now.others outcome c.lend_input-input.result c.args.course.now c.give_up_variables.new.course c.move_back.new.course
    c.requires.placed c.lend_input-input.ensures (ap (λ (o : Outcome). o.variables) (c.in_ok-end.ensures c.run_step.new.tally ∙ c.in_ok-left.ensures.outcome)) c.in_ok-give_up_variables.ensures (c.in_ok-move_back.ensures c.in_ok-end.lines c.run_step.new.tally.calls) in
    ordered_back site c.args.place outcome c.args.course.now c.move_back.new.course back c.requires.ordered

pub returns-clause-entries : goal.returns-clause-entries
returns-clause-entries c =
    let p = program_of c.args.command.job.style.now in
    let site = c.args.command.site.now in
    let outcome = outcome_with c.in_ok-end.end c.in_ok-end.lines c.run_step.new.tally.calls in
    let back = back_over_given_up p (c.step_depends_on_its_input.ensures p) c.args.target site c.args.place c.args.self.now.others outcome c.lend_input-input.result c.args.course.now c.give_up_variables.new.course c.move_back.new.course
    c.requires.placed c.lend_input-input.ensures (ap (λ (o : Outcome). o.variables) (c.in_ok-end.ensures c.run_step.new.tally ∙ c.in_ok-left.ensures.outcome)) c.in_ok-give_up_variables.ensures (c.in_ok-move_back.ensures c.in_ok-end.lines c.run_step.new.tally.calls) in
    length_back site c.args.place outcome c.args.course.now c.move_back.new.course back
