use Rattle.std.proofs.Common.{refl}
use Rattle.bt_session.proofs.DifferLemmas.{front_more}
use Rattle.bt_session.proofs.differing.common_front.Goals as goal

pub returns-clause-same : goal.returns-clause-same
returns-clause-same c =
    front_more c.front_by-count.result c.front_by.result c.args.old.now c.args.new.now c.split_at.result.1.now c.split_at-2.result.1.now _ _
    c.front_by-count.ensures.same c.split_at.ensures.back c.split_at-2.ensures.back refl refl c.front_by.ensures.same
