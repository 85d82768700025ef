use Rattle.std.proofs.Common.{◌≡◌, ap, ◌∙◌, List, length, get_or, slice_get, ◌<◌, ◌≤◌, ◌/◌, ◌%◌, arith}
use Rattle.std.proofs.lemmas.Bool.Decides.{nat_tests}
use Rattle.bt_text.proofs.ChunkLemmas.{chunk_get, chunk_get_past}
use Rattle.bt_text.proofs.chunks.Chunks.get.Goals as goal

pub returns-in-Some : goal.returns-in-Some
returns-in-Some g c =
    let p = c.args.place in
    let cs = c.self.inside.chunks.items in
    let chunk = c.in-Some.chunk.now in
    let is : chunk ≡ get_or cs (p / 64) chunk = c.in-Some.ensures.lookup.1 ∙ ap (λ (l : List _). get_or l (p / 64) chunk) c.as_slice.ensures.value in
    let h : p / 64 < length cs = grind (arith, nat_tests) in
    c.get-in-Some.ensures ∙ ap (λ (l : List _). slice_get l (p % 64)) is
    ∙ chunk_get cs p chunk c.self.invariant h ∙ ap (λ (l : List _). slice_get l p) c.self.view_is

pub returns-in-None : goal.returns-in-None
returns-in-None g c =
    let p = c.args.place in
    let cs = c.self.inside.chunks.items in
    let h : length cs ≤ p / 64 = grind (arith, nat_tests) in
    chunk_get_past cs p c.self.invariant h ∙ ap (λ (l : List _). slice_get l p) c.self.view_is
