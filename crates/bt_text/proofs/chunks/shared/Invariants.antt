use Rattle.std.proofs.Common.{◌≡◌, take}
use Rattle.bt_text.proofs.chunks.shared.Given as goal

abbrev pub invariant-chunks : goal.invariant-chunks
invariant-chunks g l = l.same.items ≡ take l.chunk-index l.chunks
