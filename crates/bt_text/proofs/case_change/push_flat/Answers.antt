use Rattle.bt_text.proofs.CaseLemmas.{flat_pushed}
use Rattle.bt_text.proofs.case_change.push_flat.Goals as goal

pub walk-preserved : goal.walk-preserved
walk-preserved c =
    let cut = c.split_at-else-first-eq123.ensures in
    flat_pushed c.args.mode c.walk.out.items c.push_changed.new.out.items c.walk.rest.now _ _ _ c.run_len.result c.run_len.ensures.cut cut.front cut.back c.in_ok-push_changed.ensures c.walk.invariant
