use Rattle.std.proofs.Common.{arith, ap, refl, ◌∙◌, ◌++◌}
use Rattle.std.proofs.lemmas.Grind.{common_steps}
use Rattle.bt_stack.specs.inner.Kept.{desk}
use Rattle.bt_stack.specs.declared.step_variables.StepVariables.{StepVariables}
use Rattle.bt_stack.specs.inner.Moved.{made_bytes}
use Rattle.bt_stack.proofs.MoveLemmas.{made_size_is, compacted}
use Rattle.bt_stack.proofs.stack.Stack.compact.Goals as goal

pub move_made-requires : goal.move_made-requires
move_made-requires c = let s = c.self.inside in
    grind (arith, common_steps, made_size_is s.pool.items s.values.items c.self.invariant.fit)

pub move_made-requires-then-live-len : goal.move_made-requires-then-live-len
move_made-requires-then-live-len c = let s = c.self.inside in
    grind (arith, common_steps, made_size_is s.pool.items s.globals.texts.items c.self.invariant.globals_fit)

pub move_made-requires-then-live-len-2 : goal.move_made-requires-then-live-len-2
move_made-requires-then-live-len-2 c = let s = c.self.inside in
    grind (arith, common_steps, made_size_is s.pool.items s.own.texts.items c.self.invariant.own_fit)

pub invariant_of-self-then-live-len : goal.invariant_of-self-then-live-len
invariant_of-self-then-live-len c = let s = c.self.inside in
    let first = c.in_ok-copy_made.ensures ∙ (λ k. c.clear.ensures.items k ++ made_bytes (c.deref-then-live-len.ensures.value k) (c.deref-then-live-len-2.ensures.value k)) in
    let second = c.in_ok-copy_made-2.ensures ∙ (λ k. c.copy_made.new.to.items ++ made_bytes (c.deref-then-live-len-3.ensures.value k) (c.deref-then-live-len-4.ensures.value k)) in
    let third = c.in_ok-copy_made-3.ensures ∙ (λ k. c.copy_made-then-live-len.new.to.items ++ made_bytes (c.deref-then-live-len-5.ensures.value k) (c.deref-then-live-len-6.ensures.value k)) in
    let done = compacted s.pool.items c.copy_made.new.to.items c.copy_made-then-live-len.new.to.items c.copy_made-then-live-len-2.new.to.items s.values.items c.move_made.new.values.items s.globals (record s.globals { texts = c.move_made-then-live-len.new.values }) s.own (record s.own { texts = c.move_made-then-live-len-2.new.values }) c.len-first.result c.len-second.result c.self.invariant first second third (grind arith) (grind arith) c.move_made.ensures c.move_made-then-live-len.ensures c.move_made-then-live-len-2.ensures refl refl refl refl in
    rw c.swap.ensures.x_after done.sound

pub returns-in_ok-copy_made-3 : goal.returns-in_ok-copy_made-3
returns-in_ok-copy_made-3 c = let s = c.self.inside in
    let first = c.in_ok-copy_made.ensures ∙ (λ k. c.clear.ensures.items k ++ made_bytes (c.deref-then-live-len.ensures.value k) (c.deref-then-live-len-2.ensures.value k)) in
    let second = c.in_ok-copy_made-2.ensures ∙ (λ k. c.copy_made.new.to.items ++ made_bytes (c.deref-then-live-len-3.ensures.value k) (c.deref-then-live-len-4.ensures.value k)) in
    let third = c.in_ok-copy_made-3.ensures ∙ (λ k. c.copy_made-then-live-len.new.to.items ++ made_bytes (c.deref-then-live-len-5.ensures.value k) (c.deref-then-live-len-6.ensures.value k)) in
    let g : StepVariables = record s.globals { texts = c.move_made-then-live-len.new.values } in
    let o : StepVariables = record s.own { texts = c.move_made-then-live-len-2.new.values } in
    let done = compacted s.pool.items c.copy_made.new.to.items c.copy_made-then-live-len.new.to.items c.copy_made-then-live-len-2.new.to.items s.values.items c.move_made.new.values.items s.globals g s.own o c.len-first.result c.len-second.result c.self.invariant first second third (grind arith) (grind arith) c.move_made.ensures c.move_made-then-live-len.ensures c.move_made-then-live-len-2.ensures refl refl refl refl in
    ap (λ v. desk v.items c.move_made.new.values.items g o) c.swap.ensures.x_after ∙ done.same ∙ c.self.view_is
