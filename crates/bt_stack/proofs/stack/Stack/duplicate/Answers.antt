use Rattle.bt_stack.proofs.GrowLemmas.{items_are}
use Rattle.bt_stack.proofs.TopLemmas.{top_seen_short}
use Rattle.bt_stack.proofs.stack.Stack.duplicate.Goals as goal

pub returns-in_err-push-clause-short : goal.returns-in_err-push-clause-short
returns-in_err-push-clause-short c = let s = c.self.inside in
    top_seen_short s.pool.items s.values.items _ c.self.invariant.fit (items_are s.pool.items s.values.items s.globals s.own _ c.self.view_is)

pub returns-in_ok-push-clause-short : goal.returns-in_ok-push-clause-short
returns-in_ok-push-clause-short c = let s = c.self.inside in
    top_seen_short s.pool.items s.values.items _ c.self.invariant.fit (items_are s.pool.items s.values.items s.globals s.own _ c.self.view_is)
