use Rattle.std.proofs.Common.{◌∙◌, ap}
use Rattle.bt_resolve.specs.inner.Kept.{resolved_for}
use Rattle.bt_run.specs.inner.Asked.{question_for}
use Rattle.bt_run.specs.inner.JobView.{job_of}
use Rattle.bt_run.proofs.FindingLemmas.{fields_apart, resolved_is, star_within}
use Rattle.bt_run.proofs.read_command.found.Goals as goal

pub resolve_asked-requires-clause-fields : goal.resolve_asked-requires-clause-fields
resolve_asked-requires-clause-fields c = fields_apart c.in_ok-asking.asking (question_for (job_of c.args.job) c.args.number) c.in_ok-asking.ensures c.args.job.fields_apart

pub resolve_asked-requires-clause-star : goal.resolve_asked-requires-clause-star
resolve_asked-requires-clause-star c = star_within c.in_ok-asking.asking (question_for (job_of c.args.job) c.args.number) c.in_ok-asking.ensures c.args.job.star_within

pub returns : goal.returns
returns c = c.in_ok-all.ensures ∙ ap resolved_for c.in_ok-asking.ensures ∙ resolved_is (job_of c.args.job) c.args.number
