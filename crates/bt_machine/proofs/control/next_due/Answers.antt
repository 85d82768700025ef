use Rattle.std.proofs.Common.{◌≡◌, [], ◌∷◌, ◌++◌, ap, ◌∙◌, arith}
use Rattle.std.proofs.lemmas.Grind.{common_steps}
use Rattle.bt_actions.specs.declared.code.Code.TheVariants as code
use Rattle.bt_machine.specs.declared.control.Frame.TheVariants as held
use Rattle.bt_machine.proofs.LoopLemmas.{due_frame, due_kept, due_nothing, no_more, one_less}
use Rattle.bt_machine.proofs.control.next_due.Goals as goal

pub returns-in-None : goal.returns-in-None
returns-in-None c =
    let none : c.args.rest.now ≡ [] = grind (arith, common_steps) in
    let empty : c.args.control.now.items ≡ [] = grind (arith, common_steps) in
    due_nothing c.args.rest.now c.args.control.now.items none empty

pub returns-in-Some-Run-Block : goal.returns-in-Some-Run-Block
returns-in-Some-Run-Block c =
    let none : c.args.rest.now ≡ [] = grind (arith, common_steps) in
    let f = held.Run (code.Block c.in-Some-Run-Block.ops) in
    let popped = c.in-Some-Run-Block.ensures.items ∙ ap (λ f. c.pop.new.self.items ++ f ∷ []) (c.in-Some-Run-Block.field-0-is ∙ ap held.Run c.in-Some-Run-Block.field-0-0-is) in
    (due_kept c.args.rest.now c.args.control.now.items c.pop.new.self.items f none popped, one_less c.args.control.now.items c.pop.new.self.items f popped)

pub returns-in-Some-Run-Name : goal.returns-in-Some-Run-Name
returns-in-Some-Run-Name c =
    let none : c.args.rest.now ≡ [] = grind (arith, common_steps) in
    let f = held.Run (code.Name c.in-Some-Run-Name.target) in
    let popped = c.in-Some-Run-Name.ensures.items ∙ ap (λ f. c.pop.new.self.items ++ f ∷ []) (c.in-Some-Run-Name.field-0-is ∙ ap held.Run c.in-Some-Run-Name.field-0-0-is) in
    (due_frame c.args.rest.now c.args.control.now.items c.pop.new.self.items f none popped, no_more c.args.control.now.items c.pop.new.self.items f popped)

pub returns-in-Some-Test : goal.returns-in-Some-Test
returns-in-Some-Test c =
    let none : c.args.rest.now ≡ [] = grind (arith, common_steps) in
    let f = held.Test c.in-Some-Test.test c.in-Some-Test.body in
    let popped = c.in-Some-Test.ensures.items ∙ ap (λ f. c.pop.new.self.items ++ f ∷ []) (c.in-Some-Test.field-0-is) in
    (due_frame c.args.rest.now c.args.control.now.items c.pop.new.self.items f none popped, one_less c.args.control.now.items c.pop.new.self.items f popped)
