use Rattle.bt_sound.proofs.FollowLemmas.{no_splits}
use Rattle.bt_sound.proofs.StateLemmas.{each_split, all_split}
use Rattle.bt_sound.proofs.parts.split.Goals as goal

pub mids-init : goal.mids-init
mids-init c = no_splits _ _

pub mids-preserved : goal.mids-preserved
mids-preserved c =
    each_split c.args.mids.now c.mids.state-index c.state-item.result c.mids.goes.items c.mids.ends.items c.put_apart.new.goes.items c.put_apart.new.ends.items c.mids-test.true c.state-item.is c.mids.invariant c.in_ok-put_apart.ensures

pub returns : goal.returns
returns c = all_split c.args.mids.now c.mids.goes.items c.mids.ends.items c.mids.state-index c.mids-test.false c.mids.invariant
