use Rattle.std.proofs.Common.{ap, arith, rules}
use Rattle.bt_actions.specs.Item.{Num}
use Rattle.bt_stack.proofs.GrowLemmas.{items_are, desk_with}
use Rattle.bt_stack.proofs.TopLemmas.{items_answered}
use Rattle.bt_stack.proofs.stack.Stack.answer_number.Goals as goal

pub returns-clause-answered : goal.returns-clause-answered
returns-clause-answered c = let s = c.self.inside in
    desk_with s.pool.items s.values.items s.globals s.own _ c.self.view_is
    (items_answered s.pool.items s.values.items _ _ _ _ _ _ c.truncate.ensures.items (grind arith) c.requires.some c.requires.there (ap Num (search rules)) (items_are s.pool.items s.values.items s.globals s.own _ c.self.view_is))
