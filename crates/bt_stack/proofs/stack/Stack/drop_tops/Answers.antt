use Rattle.std.proofs.Common.{arith}
use Rattle.bt_stack.proofs.GrowLemmas.{items_are, desk_with}
use Rattle.bt_stack.proofs.TopLemmas.{items_dropped}
use Rattle.bt_stack.proofs.stack.Stack.drop_tops.Goals as goal

pub returns : goal.returns
returns c = let s = c.self.inside in
    desk_with s.pool.items s.values.items s.globals s.own _ c.self.view_is
    (items_dropped s.pool.items s.values.items _ _ _ _ c.truncate.ensures.items (grind arith) c.requires (items_are s.pool.items s.values.items s.globals s.own _ c.self.view_is))
