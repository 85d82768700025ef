use Rattle.std.proofs.Common.{◌∙◌, ap, subst, sym, List, ℕ}
use Rattle.bt_job.specs.declared.files.File.{File}
use Rattle.bt_run.specs.Meaning.{meaning}
use Rattle.bt_run.specs.Shown.{meaning_of}
use Rattle.bt_front.proofs.JobLemmas.{job_told}
use Rattle.bt_front.proofs.PlainLemmas.{is_logged}
use Rattle.bt_front.specs.JobRun.{IsLogged}
use Rattle.bt_front.proofs.job.run.Goals as goal

pub put_names_back-requires : goal.put_names_back-requires
put_names_back-requires c =
    subst IsLogged (sym c.in_ok-answers.ensures) (is_logged c.as_slice.result.now c.as_slice-2.result.now c.args.min)

pub returns : goal.returns
returns c =
    job_told c.in_ok-under.under.names c.args.files.now c.in_ok-under.under.files c.args.root.now c.in_ok-under.under.root c.args.min
    (meaning_of c.in_ok-answers.answers) (meaning_of c.put_names_back.new.answers)
    c.in_ok-under.ensures.names c.in_ok-under.ensures.files c.in_ok-under.ensures.root
    (c.in_ok-answers.ensures
    ∙ ap (λ (fs : List File). meaning fs c.as_slice-2.result.now c.args.min) c.as_slice.ensures
    ∙ ap (λ (r : List ℕ). meaning c.in_ok-under.under.files r c.args.min) c.as_slice-2.ensures)
    c.in_ok-put_names_back.ensures
