use Rattle.std.proofs.Common.{◌∙◌}
use Rattle.bt_style.specs.Program.{program_of}
use Rattle.bt_actions.specs.Actions.{basic}
use Rattle.bt_stack.specs.View.{world_of}
use Rattle.bt_machine.specs.Eval.{built_in, eval}
use Rattle.bt_machine.specs.inner.Loop.{left, whole}
use Rattle.bt_machine.proofs.LoopLemmas.{basic_leads}
use Rattle.bt_machine.proofs.calls.call_builtin.Goals as goal

pub returns-in_ok-flow-clause-leads : goal.returns-in_ok-flow-clause-leads
returns-in_ok-flow-clause-leads c = λ k.
    let p = program_of c.args.context.style.now in
    let w = world_of c.args.state.now in
    c.next_after.ensures p c.args.control.now.items (world_of c.call_basic.new.state) k
    ∙ basic_leads c.in_ok-flow.flow (basic p c.args.builtin w) (built_in p (eval p) c.args.builtin w k) (world_of c.call_basic.new.state) k (left p (whole c.args.rest.now c.args.control.now.items)) c.in_ok-flow.ensures (c.is_basic.ensures c.if-is_basic.true p (eval p) w k)
