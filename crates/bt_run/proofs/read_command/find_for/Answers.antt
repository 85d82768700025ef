use Rattle.std.proofs.Common.{subst}
use Rattle.bt_resolve.specs.declared.question.Question.{Question}
use Rattle.bt_resolve.specs.inner.Kept.{resolved_for}
use Rattle.bt_run.specs.inner.Alike.{IsAlike}
use Rattle.bt_run.specs.inner.Asked.{question_for}
use Rattle.bt_run.specs.inner.Found.{IsKept}
use Rattle.bt_run.specs.inner.JobView.{job_of}
use Rattle.bt_run.proofs.FindingLemmas.{fields_apart, star_within}
use Rattle.bt_run.proofs.read_command.find_for.Goals as goal

pub find-requires-clause-fields : goal.find-requires-clause-fields
find-requires-clause-fields c = fields_apart c.in_ok-asking.asking (question_for (job_of c.args.job) c.args.number) c.in_ok-asking.ensures c.args.job.fields_apart

pub find-requires-clause-star : goal.find-requires-clause-star
find-requires-clause-star c = star_within c.in_ok-asking.asking (question_for (job_of c.args.job) c.args.number) c.in_ok-asking.ensures c.args.job.star_within

pub returns-clause-kept : goal.returns-clause-kept
returns-clause-kept c = subst (IsKept c.find.new.kept) c.in_ok-asking.ensures c.in_ok-alike.ensures.kept

pub returns-clause-alike : goal.returns-clause-alike
returns-clause-alike c = λ was kept.
    subst (λ (q : Question). IsAlike c.in_ok-alike.alike (resolved_for was) (resolved_for q)) c.in_ok-asking.ensures (c.in_ok-alike.ensures.alike was kept)
