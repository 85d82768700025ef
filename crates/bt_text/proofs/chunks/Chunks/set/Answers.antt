use Rattle.std.proofs.Common.{◌≡◌, ap, subst, List, length, set, get_or, ◌/◌, arith}
use Rattle.std.proofs.lemmas.Result.{on_ok_weaker}
use Rattle.bt_text.proofs.ChunkLemmas.{chunk_put, chunk_set_past, whole_at, whole_put}
use Rattle.bt_text.proofs.chunks.Chunks.set.Goals as goal

pub returns-then-at-len-clause-ok : goal.returns-then-at-len-clause-ok
returns-then-at-len-clause-ok g c =
    subst (λ (l : List _). l ≡ set l c.args.place c.args.item) c.self.view_is
    (chunk_set_past c.self.inside.chunks.items c.args.place c.args.item c.self.invariant (omega arith))

pub set-requires : goal.set-requires
set-requires g c =
    let p = c.args.place in
    let cs = c.self.inside.chunks.items in
    let chunk = c.index_mut.result.now in
    let whole : length (get_or cs (p / 64) chunk) ≡ 64 = whole_at cs (p / 64) chunk c.self.invariant (omega arith) in
    omega (arith, ap length c.index_mut.ensures.value, whole)

pub invariant_of-self : goal.invariant_of-self
invariant_of-self g c =
    whole_put c.self.inside.chunks.items (c.args.place / 64) c.index_mut.result.now c.set.new.self c.self.invariant (omega arith)
    c.index_mut.ensures.value c.set.ensures.len

pub returns-clause-ok : goal.returns-clause-ok
returns-clause-ok g c =
    on_ok_weaker c.set.result
    (chunk_put c.self.inside.chunks.items c.args.place c.index_mut.result.now c.set.new.self c.args.self.now c.args.item c.self.invariant (omega arith)
    c.index_mut.ensures.value c.self.view_is)
    c.set.ensures.ok
