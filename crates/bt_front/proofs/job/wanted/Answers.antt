use Rattle.std.proofs.Common.{◌∙◌, ap, map, List, ℕ}
use Rattle.bt_job.specs.declared.files.File.{File}
use Rattle.bt_job.specs.Citations.{citations}
use Rattle.bt_files.specs.Messages.{name_back}
use Rattle.bt_front.proofs.JobLemmas.{job_wanted}
use Rattle.bt_front.proofs.job.wanted.Goals as goal

pub returns : goal.returns
returns c = λ min.
    job_wanted c.in_ok-under.under.names c.args.files.now c.in_ok-under.under.files c.args.root.now c.in_ok-under.under.root min c.in_ok-citations.citations c.in_ok-wanted.wanted
    c.in_ok-under.ensures.names c.in_ok-under.ensures.files c.in_ok-under.ensures.root
    (c.in_ok-citations.ensures.value
    ∙ ap (λ (fs : List File). citations fs c.as_slice-2.result.now) c.as_slice.ensures
    ∙ ap (λ (r : List ℕ). citations c.in_ok-under.under.files r) c.as_slice-2.ensures)
    (c.in_ok-wanted.ensures ∙ ap (map (name_back c.in_ok-under.under.names)) c.as_slice-3.ensures)
