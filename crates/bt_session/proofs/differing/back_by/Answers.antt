use Rattle.std.proofs.Common.{◌≡◌, ◌≤◌, ◌∙◌, ◌-◌, ◌++◌, ap, sym, drop, length, arith}
use Rattle.std.proofs.lemmas.List.{length-take-le}
use Rattle.bt_session.proofs.DifferLemmas.{same_parts, rest_less, joined, back_is}
use Rattle.bt_session.proofs.differing.back_by.Goals as goal

pub steps-preserved : goal.steps-preserved
steps-preserved c =
    let step = c.args.step in
    let i = c.steps.invariant in
    let old_cut = c.split_at.ensures in
    let new_cut = c.split_at-in-steps.ensures in
    let same : c.split_at.result.1.now ≡ c.split_at-in-steps.result.1.now = same_parts c.ne.result _ _ c.ne.ensures c.if-ne.false in
    let old_less : length c.steps.old_rest.now - step ≤ length c.steps.old_rest.now = omega arith in
    let new_less : length c.steps.new_rest.now - step ≤ length c.steps.new_rest.now = omega arith in
    let old_is = rest_less (length c.steps.old_rest.now - step) c.args.old.now c.steps.old_rest.now _ _ old_less i.old_rest old_cut.front old_cut.back in
    let new_is = rest_less (length c.steps.new_rest.now - step) c.args.new.now c.steps.new_rest.now _ _ new_less i.new_rest new_cut.front new_cut.back in
    let behind = ap (λ t. t ++ drop (length c.steps.old_rest.now) c.args.old.now) same ∙ ap (λ t. c.split_at-in-steps.result.1.now ++ t) i.same in record {
      old_length = omega (arith, i.old_length, ap length old_cut.front, length-take-le (length c.steps.old_rest.now - step) c.steps.old_rest.now old_less, c.steps-test.true);
      new_length = omega (arith, i.new_length, ap length new_cut.front, length-take-le (length c.steps.new_rest.now - step) c.steps.new_rest.now new_less, c.if-new_rest-step.true);
      old_rest = joined c.args.old.now _ _ old_is;
      new_rest = joined c.args.new.now _ _ new_is;
      same = sym (back_is c.args.old.now _ _ old_is) ∙ behind ∙ back_is c.args.new.now _ _ new_is;
    }
