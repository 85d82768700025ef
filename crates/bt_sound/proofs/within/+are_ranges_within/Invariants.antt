use Rattle.std.proofs.Common.{length}
use Rattle.bt_sound.proofs.within.+are_ranges_within.Given as goal

abbrev pub decreases-are_ranges_within : goal.decreases-are_ranges_within
decreases-are_ranges_within l = length l.ours.now
