use Rattle.std.proofs.Common.{length}
use Rattle.bt_sound.proofs.within.+are_knowns_within.Given as goal

abbrev pub decreases-are_knowns_within : goal.decreases-are_knowns_within
decreases-are_knowns_within l = length l.ours.now
