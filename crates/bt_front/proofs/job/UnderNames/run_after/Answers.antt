use Rattle.std.proofs.Common.{◌∙◌, ap, subst, sym}
use Rattle.bt_run.specs.Meaning.{Meaning}
use Rattle.bt_front.specs.Job.{told_under}
use Rattle.bt_front.specs.JobRun.{IsLogged}
use Rattle.bt_front.proofs.JobRunLemmas.{run_under}
use Rattle.bt_front.proofs.PlainLemmas.{is_logged}
use Rattle.bt_front.proofs.job.UnderNames.run_after.Goals as goal

pub put_names_back-requires : goal.put_names_back-requires
put_names_back-requires c =
    subst IsLogged (sym c.in_ok-run.ensures.shown) (is_logged c.as_slice-files.result.now c.as_slice-root.result.now c.args.min)

pub returns-in-Ok-clause-run : goal.returns-in-Ok-clause-run
returns-in-Ok-clause-run c =
    run_under c.args.self.now c.as_slice-files.result.now c.as_slice-root.result.now c.args.min _ c.as_slice-files.ensures c.as_slice-root.ensures
    (c.in-Ok.ensures ∙ ap (λ (m : Meaning). told_under c.args.self.now.names m) c.in_ok-run.ensures.shown)
    c.in_ok-run.ensures.steps c.in_ok-run.ensures.text c.in_ok-run.ensures.databases
