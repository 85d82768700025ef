use Rattle.bt_text.proofs.ChunkLemmas.{chunk_more, whole_more}
use Rattle.std.proofs.Common.{◌∙◌}
use Rattle.bt_text.proofs.chunks.Chunks.of.Goals as goal

pub chunks-preserved : goal.chunks-preserved
chunks-preserved g c =
    let cs = c.chunks.chunks.items in
    let new = c.push.new.self.items in
    let is = c.in_ok-new.ensures ∙ c.in_ok-chunk.ensures in
    record {
      all = chunk_more cs new c.in_ok-new.field-0 c.chunks.at c.args.items.now c.in_ok-push.ensures.items is c.chunks.invariant.all;
      whole = whole_more cs new c.in_ok-new.field-0 c.chunks.at c.args.items.now c.in_ok-push.ensures.items is c.chunks-test.true c.chunks.invariant.whole;
    }
