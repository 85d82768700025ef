use Rattle.std.proofs.Common.{ap, sym, ◌∙◌}
use Rattle.bt_style.specs.Program.{program_of}
use Rattle.bt_stack.specs.View.{world_of}
use Rattle.bt_machine.specs.Eval.{then_go, called, eval}
use Rattle.bt_machine.specs.inner.Loop.{left, whole}
use Rattle.bt_machine.proofs.calls.call.Goals as goal

pub returns-in_ok-next-in-Builtin-clause-leads : goal.returns-in_ok-next-in-Builtin-clause-leads
returns-in_ok-next-in-Builtin-clause-leads c = λ k.
    let p = program_of c.args.context.style.now in
    c.in_ok-next-in-Builtin.ensures.leads k ∙ ap (λ t. then_go (called p (eval p) t (world_of c.args.state.now) k) (left p (whole c.args.rest.now c.args.control.now.items))) (sym c.in-Builtin.is)
