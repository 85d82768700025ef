use Rattle.std.proofs.Common.{◌∙◌, sym}
use Rattle.bt_one_shot.proofs.TellLemmas.{said, not_again}
use Rattle.bt_one_shot.proofs.job_files.tell.Goals as goal

pub returns-then-failures-failures_before : goal.returns-then-failures-failures_before
returns-then-failures-failures_before g c = λ first text is told.
    said first _ _ text _ c.say.result told (sym c.failures.ensures ∙ c.if-failures-failures_before.true ∙ sym is)
    c.say.ensures

pub returns-else-failures-failures_before : goal.returns-else-failures-failures_before
returns-else-failures-failures_before g c = λ first text is told.
    not_again first _ text _ told (λ same. c.if-failures-failures_before.false (c.failures.ensures ∙ same ∙ is))
