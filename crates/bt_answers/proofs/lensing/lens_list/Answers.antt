use Rattle.std.proofs.Common.{arith}
use Rattle.serde_json.specs.View.{view}
use Rattle.bt_answers.specs.Lensing.{lens_value}
use Rattle.bt_places.proofs.MoreLemmas.{mapped_more}
use Rattle.bt_answers.proofs.lensing.lens_list.Goals as goal

pub lenses-preserved : goal.lenses-preserved
lenses-preserved c =
    mapped_more view lens_value c.args.lenses.now c.lenses.lens-index c.lens-item.result _ _ _ _ (omega (arith, c.lenses-test.true)) c.lens-item.is
    c.in_ok-push.ensures.items c.in_ok-lens_value.ensures c.lenses.invariant
