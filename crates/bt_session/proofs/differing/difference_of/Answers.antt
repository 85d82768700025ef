use Rattle.bt_session.proofs.DifferLemmas.{differing}
use Rattle.bt_session.proofs.differing.difference_of.Goals as goal

pub returns-clause-same : goal.returns-clause-same
returns-clause-same c =
    let front = c.common_front-start.ensures in
    let back = c.common_back-back.ensures in
    differing c.common_front-start.result c.common_back-back.result c.args.old.now c.args.new.now c.split_at.result.1.now c.split_at-2.result.1.now
    front.old front.new front.same c.split_at.ensures.back c.split_at-2.ensures.back back.old back.new back.same
