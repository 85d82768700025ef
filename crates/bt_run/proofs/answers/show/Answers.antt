-- Each part is what its call makes of the run's log.
use Rattle.std.proofs.Common.{◌≡◌, ap, ◌∙◌}
use Rattle.bt_log.specs.Log.{status_of, log_bytes, terse_bytes}
use Rattle.bt_run.proofs.answers.show.Goals as goal

pub returns : goal.returns
returns c =
    let blg = c.in_ok-blg.ensures ∙ ap log_bytes c.as_slice.ensures in
    let terse = c.in_ok-terse.ensures ∙ ap terse_bytes c.as_slice-2.ensures in
    let status : c.status.result ≡ status_of c.args.log = c.status.ensures ∙ ap status_of c.as_slice-3.ensures in
    λ j. record { bbl = c.args.bbl; blg = blg j; terse = terse j; messages = c.args.log; status = status j; wanted = c.args.wanted }
