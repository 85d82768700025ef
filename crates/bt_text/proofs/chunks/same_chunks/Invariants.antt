use Rattle.std.proofs.Common.{◌≡◌, take}
use Rattle.bt_text.proofs.chunks.same_chunks.Given as goal

abbrev pub invariant-chunks : goal.invariant-chunks
invariant-chunks g l = take l.at l.chunks ≡ take l.at l.others
