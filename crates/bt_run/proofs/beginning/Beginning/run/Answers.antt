use Rattle.std.proofs.Common.{◌-◌, List, length, ◌∙◌, ap, sym}
use Rattle.bt_job.specs.declared.citations.Citations.{Citations}
use Rattle.bt_run.specs.declared.course.Step.{Step}
use Rattle.bt_run.specs.Shown.{meaning_of}
use Rattle.bt_run.specs.Meaning.{Meaning}
use Rattle.bt_run.specs.inner.Cases.{bbl_of, shown_of}
use Rattle.bt_run.specs.inner.Course.{recorded}
use Rattle.bt_run.proofs.AnswerLemmas.{meant, kept_text, kept_steps, reported}
use Rattle.bt_run.proofs.beginning.Beginning.run.Goals as goal

pub returns-clause-shown : goal.returns-clause-shown
returns-clause-shown c =
    let ran = c.in_ok-ran.ran in
    let steps = c.run_asked.new.steps.steps in
    let wanted = c.in_ok-wanted.wanted in
    meant c.args.self.files.now c.args.self.root.now c.args.self.min c.deref-2.result.now (recorded ran.course steps) wanted (meaning_of c.in_ok-answers.answers)
    (c.in_ok-answers.ensures ∙ ap (λ bbl. shown_of bbl ran.course.log wanted) (c.in_ok-written.ensures.bbl ∙ ap bbl_of c.as_slice-2.ensures))
    c.in_ok-ran.ensures.run (c.in_ok-wanted.ensures ∙ c.as_slice.ensures ∙ ap (λ (d : Citations). d.wanted) (c.deref.ensures ∙ sym c.deref-2.ensures))
    (c.deref-2.ensures ∙ c.in_ok-citations.ensures.value)

pub returns-clause-text : goal.returns-clause-text
returns-clause-text c = kept_text c.args.self.files.now c.args.self.root.now c.deref-2.result.now c.in_ok-ran.ran.text c.in_ok-ran.ensures.text (c.deref-2.ensures ∙ c.in_ok-citations.ensures.value)

pub returns-clause-steps : goal.returns-clause-steps
returns-clause-steps c =
    kept_steps c.args.self.files.now c.args.self.root.now c.args.self.min c.deref-2.result.now (recorded c.in_ok-ran.ran.course c.run_asked.new.steps.steps) c.in_ok-ran.ensures.run
    (c.deref-2.ensures ∙ c.in_ok-citations.ensures.value)

pub returns-clause-report : goal.returns-clause-report
returns-clause-report c =
    let ran = c.in_ok-ran.ran in
    let own = c.run_asked.new.steps in
    let told = c.of-report.ensures in
    reported c.args.self.files.now c.args.self.root.now c.args.self.min c.args.self.before.kept.now.text c.args.self.before.kept.now.steps ran.text own.steps own.reuse c.of-report.result
    (told.status ∙ ap (λ (m : Meaning). m.status) (returns-clause-shown c)) (returns-clause-text c) (returns-clause-steps c) c.in_ok-ran.ensures.taken told.ran
    (told.reused ∙ ap (λ (steps : List Step). length steps - own.reuse.ran) c.as_slice-3.ensures) told.ticks
