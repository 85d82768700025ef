-- The crate's laws. No code needs them; `specs/laws` states them.
use Rattle.std.proofs.Common.{sym, ap, ◌∙◌}
use Rattle.bt_job.specs.Citations.{citations}
use Rattle.bt_job.specs.Fit.{AlwaysFit}
use Rattle.bt_job.specs.laws.ByAux.{CitedByAux}
use Rattle.bt_job.specs.laws.Lines.{AnyDepthServes}
use Rattle.bt_job.proofs.BoundLemmas.{queue_at, job_lines_queue}
use Rattle.bt_job.proofs.FitLemmas
use Rattle.bt_job.proofs.LookupLemmas.{asked_by_aux_only}

pub any_depth_serves : AnyDepthServes
any_depth_serves deep files root enough = sym (queue_at files root deep enough) ∙ job_lines_queue files root

pub always_fit : AlwaysFit
always_fit = FitLemmas.always_fit

pub cited_by_aux : CitedByAux
cited_by_aux files others root same =
    asked_by_aux_only files root ∙ ap (λ fs. citations fs root) same ∙ sym (asked_by_aux_only others root)
