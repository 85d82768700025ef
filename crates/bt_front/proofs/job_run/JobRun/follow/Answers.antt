use Rattle.std.proofs.Common.{rules, subst, IsTrue}
use Rattle.bt_front.proofs.JobRunLemmas.{plain_run, run_reported}
use Rattle.bt_front.proofs.job_run.JobRun.follow.Goals as goal

pub follow-requires-clause-run : goal.follow-requires-clause-run
follow-requires-clause-run c =
    plain_run c.args.change.was.now c.args.change.root.now c.args.change.min c.args.self.now (search rules) c.requires.run

pub returns-clause-run : goal.returns-clause-run
returns-clause-run c = λ some.
    run_reported c.args.change.was.now c.args.change.files.now c.args.change.root.now c.args.change.min _ c.in_ok-report.report
    c.requires.names (c.requires.run.plain (search rules)).none
    c.in_ok-report.ensures.run c.in_ok-report.ensures.after (subst IsTrue c.is_some.ensures some)
