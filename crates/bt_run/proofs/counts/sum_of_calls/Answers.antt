use Rattle.bt_style.specs.Builtins.{place_of}
use Rattle.bt_style.specs.declared.builtin.Builtin.TheVariants.{Greater}
use Rattle.bt_run.specs.inner.Steps.{calls_in}
use Rattle.bt_run.proofs.CountLemmas.{sum_with}
use Rattle.bt_run.proofs.counts.sum_of_calls.Goals as goal

pub builtins-preserved : goal.builtins-preserved
builtins-preserved c =
    sum_with (λ b. calls_in c.args.calls.now (place_of b)) c.args.builtins.now c.builtins.builtin-index Greater c.builtins.sum c.calls_of.result c.in_ok-sum.sum c.checked_add.result
    _ c.builtins-test.true c.builtins.invariant c.calls_of.ensures c.checked_add.ensures c.in_ok-sum.ensures.ok_part
