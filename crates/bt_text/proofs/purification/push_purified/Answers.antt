use Rattle.bt_text.proofs.PurifyLemmas.{run_pushed}
use Rattle.bt_text.proofs.purification.push_purified.Goals as goal

pub walk-preserved : goal.walk-preserved
walk-preserved c =
    let cut = c.split_at-else-first-eq123.ensures in
    run_pushed c.walk.out.items c.push_pure.new.out.items c.walk.rest.now c.split_at-else-first-eq123.result.0.now c.split_at-else-first-eq123.result.1.now _ c.run_len.result c.run_len.ensures.cut cut.front cut.back c.in_ok-push_pure.ensures c.walk.invariant
