use Rattle.std.proofs.Common.{List, ap, sym, refl, subst, length, ◌∙◌}
use Rattle.bt_stack.specs.declared.value.Value.{Value}
use Rattle.bt_stack.specs.Desk.{with_own}
use Rattle.bt_stack.specs.inner.Kept.{AllFit, bytes_in, items}
use Rattle.bt_stack.proofs.AssignLemmas.{desk_own, own_assigned, sound_grown}
use Rattle.bt_stack.proofs.GrowLemmas.{desk_kept, items_are}
use Rattle.bt_stack.proofs.TopLemmas.{at_err, own_sound}
use Rattle.bt_stack.proofs.VariableLemmas.{text_refused}
use Rattle.bt_stack.proofs.stack.Stack.put_own_text.Goals as goal

pub in_pool-requires-clause-fits : goal.in_pool-requires-clause-fits
in_pool-requires-clause-fits c = let s = c.self.inside in
    let P : List Value → Type 0 = λ l. AllFit (length s.pool.items) l in
    c.in-Some.ensures.fits _ (subst P (sym c.deref.ensures.value) c.self.invariant.fit)

pub returns-in_err-text-in-Some-clause-err : goal.returns-in_err-text-in-Some-clause-err
returns-in_err-text-in-Some-clause-err c = let s = c.self.inside in
    at_err c.from_residual.result (desk_kept _ _ s.values.items s.globals s.own _ c.in_err-text-in-Some.ensures.grows c.self.invariant c.self.view_is)

pub invariant_of-self-in_err-set_text-in-Some : goal.invariant_of-self-in_err-set_text-in-Some
invariant_of-self-in_err-set_text-in-Some c = let s = c.self.inside in
    let sound = sound_grown _ _ s.values.items s.globals s.own c.in_ok-text-in-Some.ensures.grows c.self.invariant in
    own_sound _ _ s.globals _ _ (c.in_err-set_text-in-Some.ensures.fit _ c.in_ok-text-in-Some.ensures.fits sound.own_fit) sound

pub returns-in_err-set_text-in-Some-clause-err : goal.returns-in_err-set_text-in-Some-clause-err
returns-in_err-set_text-in-Some-clause-err c = let s = c.self.inside in
    let grows = c.in_ok-text-in-Some.ensures.grows in
    let kept = desk_kept _ _ s.values.items s.globals s.own _ grows c.self.invariant c.self.view_is in
    at_err c.from_residual-in_err-set_text-in-Some.result
    (desk_own _ _ s.values.items s.globals s.own (record s.own { texts = c.set_text.new.texts }) _ _ grows c.self.invariant c.self.view_is refl
    (c.in_err-set_text-in-Some.ensures.err _ _ ∙ ap (λ d. d.own.texts) kept))

pub invariant_of-self-in-Some : goal.invariant_of-self-in-Some
invariant_of-self-in-Some c = let s = c.self.inside in
    let sound = sound_grown _ _ s.values.items s.globals s.own c.in_ok-text-in-Some.ensures.grows c.self.invariant in
    own_sound _ _ s.globals _ _ (c.in_ok-set_text-in-Some.ensures.fit _ c.in_ok-text-in-Some.ensures.fits sound.own_fit) sound

pub returns-in-None-clause-ok : goal.returns-in-None-clause-ok
returns-in-None-clause-ok c = let s = c.self.inside in
    ap (λ o. with_own o c.args.self.now)
    (text_refused (items s.pool.items) c.deref.result.now s.values.items c.args.self.now.items c.args.depth c.args.n c.args.self.now.own (c.in-None.ensures.item s.pool.items) c.deref.ensures.value (items_are s.pool.items s.values.items s.globals s.own _ c.self.view_is))

pub returns-in_ok-set_text-in-Some-clause-ok : goal.returns-in_ok-set_text-in-Some-clause-ok
returns-in_ok-set_text-in-Some-clause-ok c = let s = c.self.inside in
    own_assigned _ _ c.deref.result.now s.values.items s.globals s.own (record s.own { texts = c.set_text.new.texts }) _ c.args.depth c.args.n (bytes_in s.pool.items c.in-Some.text) _ c.in_ok-text-in-Some.ensures.grows c.self.invariant c.self.view_is c.deref.ensures.value (c.in-Some.ensures.item s.pool.items) c.in_ok-text-in-Some.ensures.bytes refl
    (c.in_ok-set_text-in-Some.ensures.ok _ s.own.given.now.texts cc)
