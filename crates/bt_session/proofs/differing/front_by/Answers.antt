use Rattle.std.proofs.Common.{◌≡◌, ◌∙◌, ap, drop, length, length-drop, arith}
use Rattle.std.proofs.lemmas.List.{drop-drop}
use Rattle.bt_session.proofs.DifferLemmas.{same_parts, front_more}
use Rattle.bt_session.proofs.differing.front_by.Goals as goal

pub steps-preserved : goal.steps-preserved
steps-preserved c =
    let n = c.steps.count in
    let step = c.args.step in
    let i = c.steps.invariant in
    let old_cut = c.split_at.ensures in
    let new_cut = c.split_at-in-steps.ensures in
    let same : c.split_at.result.0.now ≡ c.split_at-in-steps.result.0.now = same_parts c.ne.result _ _ c.ne.ensures c.if-ne.false in record {
      old_rest = old_cut.back ∙ ap (drop step) i.old_rest ∙ drop-drop step n c.args.old.now;
      new_rest = new_cut.back ∙ ap (drop step) i.new_rest ∙ drop-drop step n c.args.new.now;
      old_length = omega (arith, i.old_length, ap length old_cut.back, length-drop step c.steps.old_rest.now, c.steps-test.true);
      new_length = omega (arith, i.new_length, ap length new_cut.back, length-drop step c.steps.new_rest.now, c.if-new_rest-step.true);
      same = front_more n step c.args.old.now c.args.new.now c.steps.old_rest.now c.steps.new_rest.now _ _ i.same i.old_rest i.new_rest old_cut.front new_cut.front same;
    }
