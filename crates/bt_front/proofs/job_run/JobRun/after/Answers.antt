use Rattle.bt_front.proofs.JobRunLemmas.{run_of_job}
use Rattle.bt_front.proofs.job_run.JobRun.after.Goals as goal

pub returns-clause-run : goal.returns-clause-run
returns-clause-run c =
    run_of_job c.in_ok-under.under c.args.files.now c.args.root.now c.args.min _
    c.in_ok-under.ensures.names c.in_ok-under.ensures.files c.in_ok-under.ensures.root c.in_ok-run.ensures.run c.is_empty.ensures
