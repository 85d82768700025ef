use Rattle.std.proofs.Common.{◌≡◌, ◌++◌, take}
use Rattle.bt_text.specs.inner.Chunks.{all_of}
use Rattle.bt_text.proofs.chunks.append_all.Given as goal

abbrev pub invariant-chunks : goal.invariant-chunks
invariant-chunks g l = l.items.items ≡ l.fn.items.items ++ all_of (take l.chunk-index l.chunks)
