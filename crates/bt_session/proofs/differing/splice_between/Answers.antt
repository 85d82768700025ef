use Rattle.bt_session.proofs.DifferLemmas.{difference_is_splice}
use Rattle.bt_session.proofs.differing.splice_between.Goals as goal

pub returns : goal.returns
returns c =
    let d = c.difference_of-start.ensures in
    let result = c.difference_of-start.result in
    difference_is_splice c.args.old.now c.args.new.now result.start result.end result.new_end d.order d.within d.old_order d.old_within d.same
