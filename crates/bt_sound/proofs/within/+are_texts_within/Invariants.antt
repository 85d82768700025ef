use Rattle.std.proofs.Common.{length}
use Rattle.bt_sound.proofs.within.+are_texts_within.Given as goal

abbrev pub decreases-are_texts_within : goal.decreases-are_texts_within
decreases-are_texts_within l = length l.ours.now
