use Rattle.bt_actions.specs.Arguments.{as_target}
use Rattle.bt_stack.proofs.GrowLemmas.{items_are}
use Rattle.bt_stack.proofs.TopLemmas.{read_at, read_none}
use Rattle.bt_stack.proofs.stack.Stack.name_at.Goals as goal

pub returns-in-Some : goal.returns-in-Some
returns-in-Some c = let s = c.self.inside in
    read_at as_target s.pool.items _ _ _ _ _ _ (c.name_in.ensures s.pool.items) (c.in-Some.ensures.item s.pool.items) c.deref.ensures.value (items_are s.pool.items s.values.items s.globals s.own _ c.self.view_is)

pub returns-in-None : goal.returns-in-None
returns-in-None c = let s = c.self.inside in
    read_none as_target s.pool.items _ _ _ _ (c.in-None.ensures.item s.pool.items) c.deref.ensures.value (items_are s.pool.items s.values.items s.globals s.own _ c.self.view_is)
