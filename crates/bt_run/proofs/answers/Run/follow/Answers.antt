use Rattle.std.specs.Prelude.{IfSome}
use Rattle.std.proofs.Common.{◌∙◌, ap, subst, sym, Option}
use Rattle.bt_style.specs.declared.style.Style.{Style}
use Rattle.bt_style.specs.Program.{program_of}
use Rattle.bt_run.specs.declared.follow.NewRun.{NewRun}
use Rattle.bt_run.specs.Kept.{report_after}
use Rattle.bt_run.specs.Shown.{meaning_of}
use Rattle.bt_run.specs.inner.Change.{IsAskedOfRun}
use Rattle.bt_run.specs.inner.Follow.{IsNewRun}
use Rattle.bt_run.proofs.answers.Run.follow.Goals as goal

pub new_run-requires-clause-asked : goal.new_run-requires-clause-asked
new_run-requires-clause-asked c =
    let h = c.args.change in
    let run = c.style_asked.new.self in
    subst (λ (s : Style). IsAskedOfRun h run (program_of s)) (sym c.deref.ensures)
    (subst (λ (o : Option Style). IfSome o (λ s. IsAskedOfRun h run (program_of s))) c.in-Some-2.is c.in_ok-style.ensures.asked)

pub put-requires-clause-put : goal.put-requires-clause-put
put-requires-clause-put c =
    let is = subst (λ (o : Option NewRun). IfSome o (IsNewRun c.args.change c.style_asked.new.self)) c.in-Some-3.is c.in_ok-new.ensures in
    is.put

pub put-requires-clause-fewer : goal.put-requires-clause-fewer
put-requires-clause-fewer c =
    let is = subst (λ (o : Option NewRun). IfSome o (IsNewRun c.args.change c.style_asked.new.self)) c.in-Some-3.is c.in_ok-new.ensures in
    is.put.walked.fewer

pub put-requires-clause-part : goal.put-requires-clause-part
put-requires-clause-part c =
    let is = subst (λ (o : Option NewRun). IfSome o (IsNewRun c.args.change c.style_asked.new.self)) c.in-Some-3.is c.in_ok-new.ensures in
    is.part

pub returns-clause-run : goal.returns-clause-run
returns-clause-run c =
    let is = subst (λ (o : Option NewRun). IfSome o (IsNewRun c.args.change c.style_asked.new.self)) c.in-Some-3.is c.in_ok-new.ensures in
    let put = c.in_ok-report-2.ensures in
    record { shown = ap meaning_of put.answers ∙ is.shown; text = put.text ∙ is.text; steps = put.steps ∙ is.steps }

pub returns-clause-after : goal.returns-clause-after
returns-clause-after c =
    let is = subst (λ (o : Option NewRun). IfSome o (IsNewRun c.args.change c.style_asked.new.self)) c.in-Some-3.is c.in_ok-new.ensures in
    is.texts c.put.new.self.kept c.in_ok-report-2.ensures.resolution

pub returns-clause-report : goal.returns-clause-report
returns-clause-report c =
    let h = c.args.change in
    let is = subst (λ (o : Option NewRun). IfSome o (IsNewRun h c.style_asked.new.self)) c.in-Some-3.is c.in_ok-new.ensures in
    let still = c.style_asked.ensures.still in
    let text = still.text ∙ c.follow_unseen.ensures.text in
    let steps = still.steps ∙ c.follow_unseen.ensures.steps in
    is.report c.in_ok-report-2.report c.in_ok-report-2.ensures.report ∙ (λ j. report_after (text j) (steps j) h.files.now h.root.now h.min)
