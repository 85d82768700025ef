use Rattle.bt_actions.specs.View.{code_seen}
use Rattle.bt_stack.specs.View.{world_of}
use Rattle.bt_machine.specs.inner.Loop.{whole}
use Rattle.bt_machine.proofs.LoopLemmas.{loop_leads}
use Rattle.bt_machine.proofs.calls.repeat.Goals as goal

pub returns-in_ok-first-in-Some-clause-leads : goal.returns-in_ok-first-in-Some-clause-leads
returns-in_ok-first-in-Some-clause-leads c = λ p k.
    let taken = rw c.in-Some.is at c.in_ok-take_loop.ensures in
    loop_leads p (code_seen c.in-Some.test) (code_seen c.in-Some.body) (whole c.args.rest.now c.args.control.now.items) (whole c.in_ok-first-in-Some.first.now c.begin_loop.new.control.items) (world_of c.args.state.now) (world_of c.take_loop.new.state) k taken c.in_ok-first-in-Some.ensures.same
