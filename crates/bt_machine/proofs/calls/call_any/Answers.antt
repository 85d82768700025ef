use Rattle.std.proofs.Common.{ap, sym, ◌∙◌}
use Rattle.bt_style.specs.Program.{program_of}
use Rattle.bt_stack.specs.View.{world_of}
use Rattle.bt_machine.specs.Eval.{then_go, built_in, eval}
use Rattle.bt_machine.specs.inner.Loop.{left, whole}
use Rattle.bt_machine.proofs.calls.call_any.Goals as goal

pub returns-in_ok-next-in-CallType-clause-leads : goal.returns-in_ok-next-in-CallType-clause-leads
returns-in_ok-next-in-CallType-clause-leads c = λ k.
    let p = program_of c.args.context.style.now in
    c.in_ok-next-in-CallType.ensures.leads k ∙ ap (λ b. then_go (built_in p (eval p) b (world_of c.args.state.now) k) (left p (whole c.args.rest.now c.args.control.now.items))) (sym c.in-CallType.is)

pub returns-in_ok-next-in-If-clause-leads : goal.returns-in_ok-next-in-If-clause-leads
returns-in_ok-next-in-If-clause-leads c = λ k.
    let p = program_of c.args.context.style.now in
    c.in_ok-next-in-If.ensures.leads p k ∙ ap (λ b. then_go (built_in p (eval p) b (world_of c.args.state.now) k) (left p (whole c.args.rest.now c.args.control.now.items))) (sym c.in-If.is)

pub returns-in_ok-next-in-While-clause-leads : goal.returns-in_ok-next-in-While-clause-leads
returns-in_ok-next-in-While-clause-leads c = λ k.
    let p = program_of c.args.context.style.now in
    c.in_ok-next-in-While.ensures.leads p k ∙ ap (λ b. then_go (built_in p (eval p) b (world_of c.args.state.now) k) (left p (whole c.args.rest.now c.args.control.now.items))) (sym c.in-While.is)
