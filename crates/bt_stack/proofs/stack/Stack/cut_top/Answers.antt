use Rattle.std.proofs.Common.{ap, arith, sym, ◌∙◌}
use Rattle.bt_stack.specs.inner.Kept.{item_in}
use Rattle.bt_stack.specs.Tops.{cut}
use Rattle.bt_stack.proofs.GrowLemmas.{items_are, desk_with}
use Rattle.bt_stack.proofs.TopLemmas.{top_changed}
use Rattle.bt_stack.proofs.stack.Stack.cut_top.Goals as goal

pub returns-then-count-gt0-clause-top : goal.returns-then-count-gt0-clause-top
returns-then-count-gt0-clause-top c = let s = c.self.inside in
    desk_with s.pool.items s.values.items s.globals s.own _ c.self.view_is
    (top_changed (cut c.args.from c.args.len) s.pool.items s.values.items _ _ _ _ (grind arith) c.if-count-gt0.true c.index.ensures (ap (λ p. item_in p c.cut.result) (sym c.deref.ensures.value) ∙ c.cut.ensures.item ∙ ap (λ p. cut c.args.from c.args.len (item_in p c.index.result.now)) c.deref.ensures.value) (items_are s.pool.items s.values.items s.globals s.own _ c.self.view_is))
