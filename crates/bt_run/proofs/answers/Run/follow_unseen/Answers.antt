use Rattle.std.proofs.Common.{◌∙◌, ap, length, List}
use Rattle.bt_run.specs.declared.course.Step.{Step}
use Rattle.bt_run.proofs.UnseenLemmas.{same_report}
use Rattle.bt_run.proofs.answers.Run.follow_unseen.Goals as goal

pub returns-clause-report : goal.returns-clause-report
returns-clause-report c =
    let change = c.args.change in
    same_report change.was.now change.files.now change.root.now change.min c.args.self.now c.of_nothing-report.result c.requires.run (c.in_ok-pass.ensures.run c.if-not-branch.false)
    (c.of_nothing-report.ensures
    ∙ ap (λ (steps : List Step). record { status = c.args.self.now.answers.status; ran = 0; reused = length steps; ticks = 0 })
    (c.as_slice.ensures ∙ c.in_ok-pass.ensures.steps))
