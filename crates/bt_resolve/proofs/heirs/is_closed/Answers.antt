use Rattle.std.proofs.Common.{refl}
use Rattle.bt_resolve.proofs.NeededLemmas.{closed_at, closed_end}
use Rattle.bt_resolve.proofs.heirs.is_closed.Goals as goal

pub list-preserved : goal.list-preserved
list-preserved c = λ rest.
    c.list.invariant (closed_at c.args.family.now c.args.marks.now c.list.k c.args.list.now _ c.list-test.true refl (c.is_closed_at.ensures c.if-not-is_closed_at.false) rest)

pub returns : goal.returns
returns c = λ all. c.list.invariant (closed_end c.args.family.now c.args.marks.now c.list.k c.args.list.now c.list-test.false)
