use Rattle.std.proofs.Common.{refl, ◌∙◌}
use Rattle.bt_style.specs.Builtins.{table}
use Rattle.bt_run.specs.inner.Steps.{calls_in}
use Rattle.bt_run.proofs.CountLemmas.{counted_behind}
use Rattle.bt_run.proofs.counts.tell_counts.Goals as goal

pub returns : goal.returns
unfolding table
returns c =
    counted_behind (calls_in c.args.calls.now) c.as_slice.result.now c.in_ok-count.count c.in_ok-total_told.field-0 c.args.log.now c.push.new.self c.tell_rows.new.log
    (c.as_slice.ensures ∙ refl) c.in_ok-count.ensures c.in_ok-total_told.ensures c.in_ok-push.ensures.ok c.in_ok-tell_rows.ensures
