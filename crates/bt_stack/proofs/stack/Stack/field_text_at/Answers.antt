use Rattle.bt_actions.specs.Arguments.{as_field_text}
use Rattle.bt_stack.proofs.GrowLemmas.{items_are}
use Rattle.bt_stack.proofs.TopLemmas.{read_at, read_none, fit_read}
use Rattle.bt_stack.proofs.stack.Stack.field_text_at.Goals as goal

pub field_text_in-requires : goal.field_text_in-requires
field_text_in-requires c = fit_read _ _ _ _ _ (c.in-Some.ensures.fits _) c.deref.ensures.value c.deref-in-Some.ensures.value c.self.invariant.fit

pub returns-in-Some : goal.returns-in-Some
returns-in-Some c = let s = c.self.inside in
    read_at as_field_text s.pool.items _ _ _ _ _ _ (rw (← c.deref-in-Some.ensures.value) c.field_text_in.ensures) (c.in-Some.ensures.item _) c.deref.ensures.value (items_are s.pool.items s.values.items s.globals s.own _ c.self.view_is)

pub returns-in-None : goal.returns-in-None
returns-in-None c = let s = c.self.inside in
    read_none as_field_text s.pool.items _ _ _ _ (c.in-None.ensures.item s.pool.items) c.deref.ensures.value (items_are s.pool.items s.values.items s.globals s.own _ c.self.view_is)
