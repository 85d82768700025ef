use Rattle.std.proofs.Common.{◌∙◌, ap, subst, Option}
use Rattle.bt_resolve.specs.declared.entry.Resolved.{Resolved}
use Rattle.bt_resolve.specs.inner.Kept.{resolved_for}
use Rattle.bt_run.specs.declared.kept_resolution.KeptResolution.{KeptResolution}
use Rattle.bt_run.specs.inner.Cases.{read_in}
use Rattle.bt_run.specs.inner.Asked.{question_for}
use Rattle.bt_run.specs.inner.Found.{IsKept}
use Rattle.bt_run.specs.inner.JobView.{job_of}
use Rattle.bt_run.proofs.FindingLemmas.{resolved_is}
use Rattle.bt_run.proofs.read_command.read.Goals as goal

pub returns-in-None-clause-run : goal.returns-in-None-clause-run
returns-in-None-clause-run c = absurd (subst (λ (o : Option KeptResolution). IsKept o (question_for (job_of c.args.job) c.args.number)) c.in-None.is c.in_ok-alike.ensures.kept)

pub returns-in_ok-enter-in-Some-clause-run : goal.returns-in_ok-enter-in-Some-clause-run
returns-in_ok-enter-in-Some-clause-run c =
    let job = job_of c.args.job in
    let kept = subst (λ (o : Option KeptResolution). IsKept o (question_for job c.args.number)) c.in-Some.is c.in_ok-alike.ensures.kept in
    let found = c.resolved.ensures ∙ ap resolved_for kept ∙ resolved_is job c.args.number in
    c.in_ok-enter-in-Some.ensures ∙ ap (λ (all : Resolved). read_in job.program job.databases all c.args.course.now) found
