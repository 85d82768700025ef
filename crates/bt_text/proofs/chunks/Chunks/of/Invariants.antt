use Rattle.std.proofs.Common.{◌≡◌, ◌*◌, take}
use Rattle.bt_text.specs.inner.Chunks.{all_of, AreWhole}
use Rattle.bt_text.proofs.chunks.Chunks.of.Given as goal

abbrev pub invariant-chunks : goal.invariant-chunks
invariant-chunks g l = record {
  all : all_of l.chunks.items ≡ take (l.at * 64) l.items;
  whole : AreWhole l.chunks.items;
}
