use Rattle.std.proofs.Common.{◌∙◌, ◌++◌, ap, List}
use Rattle.bt_log.specs.declared.message.Message.{Message}
use Rattle.bt_run.specs.Counts.{counts_told}
use Rattle.bt_run.specs.inner.Steps.{calls_in}
use Rattle.bt_run.proofs.PutLemmas.{told_anew}
use Rattle.bt_run.proofs.put.log_with.Goals as goal

pub returns : goal.returns
returns c = λ before was is.
    let calls = calls_in c.args.calls.now in
    told_anew c.args.log.now before c.tell_counts.new.log was calls c.saturating_sub-before.result c.saturating_sub-before.ensures is
    (c.in_ok-tell_counts.ensures ∙ ap (λ (ms : List Message). ms ++ counts_told calls) c.in_ok-told.ensures)
