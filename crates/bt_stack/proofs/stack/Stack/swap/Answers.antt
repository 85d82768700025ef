use Rattle.std.proofs.Common.{arith, refl}
use Rattle.bt_stack.proofs.GrowLemmas.{items_are, desk_with}
use Rattle.bt_stack.proofs.TopLemmas.{tops_exchanged}
use Rattle.bt_stack.proofs.stack.Stack.swap.Goals as goal

pub returns-then-count-ge2 : goal.returns-then-count-ge2
returns-then-count-ge2 c = let s = c.self.inside in
    desk_with s.pool.items s.values.items s.globals s.own _ c.self.view_is
    (tops_exchanged s.pool.items s.values.items _ _ _ _ _ (grind arith) c.if-count-ge2.true c.index-top.ensures c.index.ensures refl (items_are s.pool.items s.values.items s.globals s.own _ c.self.view_is))
