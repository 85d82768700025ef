use Rattle.bt_resolve.proofs.NeededLemmas.{needed_same}
use Rattle.bt_resolve.proofs.heirs.needed_inherit.Goals as goal

pub returns-in_ok-some_inherit : goal.returns-in_ok-some_inherit
returns-in_ok-some_inherit c =
    needed_same c.args.family.now c.args.marks.now c.args.list.now c.args.values.now c.some_inherit.new.values (c.is_closed.ensures c.if-is_closed.true) c.in_ok-some_inherit.ensures
