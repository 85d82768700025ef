use Rattle.std.proofs.Common.{◌∙◌, arith}
use Rattle.bt_run.specs.inner.Index.{step_name}
use Rattle.bt_run.proofs.StepNameLemmas.{indexed_more}
use Rattle.bt_run.proofs.index.Index.of.Goals as goal

pub steps-preserved : goal.steps-preserved
steps-preserved c =
    indexed_more c.args.steps.now c.steps.index (record { places = c.insert.new.self }) c.steps.place c.index-steps-place.result _ c.in_ok-name.name
    c.steps.invariant (omega (arith, c.steps-test.true)) c.index-steps-place.is (c.in_ok-name.ensures ∙ (λ j. step_name (c.deref.ensures j).command (c.deref-in-steps.ensures j).input)) c.in_ok-insert.ensures.updates.0
