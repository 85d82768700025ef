use Rattle.std.proofs.Common.{sym, subst, List, length}
use Rattle.bt_stack.specs.declared.value.Value.{Value}
use Rattle.bt_stack.specs.inner.Kept.{AllFit}
use Rattle.bt_stack.proofs.GrowLemmas.{items_are}
use Rattle.bt_stack.proofs.TopLemmas.{pushed_sound}
use Rattle.bt_stack.proofs.stack.Stack.push_own_text.Goals as goal

pub invariant_of-self-in-Some : goal.invariant_of-self-in-Some
invariant_of-self-in-Some c = let s = c.self.inside in
    let P : List Value → Type 0 = λ l. AllFit (length s.pool.items) l in
    pushed_sound s.pool.items s.values.items _ _ s.globals s.own _ c.self.invariant (c.in-Some.ensures.fits _ (subst P (sym c.deref.ensures.value) c.self.invariant.own_fit)) (items_are s.pool.items s.values.items s.globals s.own _ c.self.view_is) c.requires c.in_ok-push-in-Some.ensures.items
