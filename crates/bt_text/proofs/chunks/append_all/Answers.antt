use Rattle.std.proofs.Common.{ap, ◌∙◌, List, ◌++◌, arith}
use Rattle.bt_text.proofs.ChunkLemmas.{appended_more}
use Rattle.bt_text.proofs.chunks.append_all.Goals as goal

pub chunks-preserved : goal.chunks-preserved
chunks-preserved g c =
    c.in_ok-append.ensures.items
    ∙ ap (λ (l : List _). c.chunks.items.items ++ l) (c.in_ok-copied.ensures ∙ c.as_slice.ensures)
    ∙ appended_more c.args.chunks.now c.chunks.chunk-index c.chunk-item.result c.chunks.items.items c.args.items.now.items
    (omega arith) c.chunk-item.is c.chunks.invariant
