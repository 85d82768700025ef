use Rattle.bt_actions.specs.View.{code_seen}
use Rattle.bt_stack.specs.View.{world_of}
use Rattle.bt_machine.specs.inner.Loop.{whole}
use Rattle.bt_machine.proofs.LoopLemmas.{choice_leads, no_choice_leads}
use Rattle.bt_machine.proofs.calls.choose.Goals as goal

pub returns-in_ok-body-in-Some-clause-leads : goal.returns-in_ok-body-in-Some-clause-leads
returns-in_ok-body-in-Some-clause-leads c = λ p k.
    let taken = rw c.in-Some.is at c.in_ok-take_choice.ensures in
    choice_leads p (code_seen c.in-Some.code) (whole c.args.rest.now c.args.control.now.items) (whole c.in_ok-body-in-Some.body.now c.begin.new.control.items) (world_of c.args.state.now) (world_of c.take_choice.new.state) k taken c.in_ok-body-in-Some.ensures.same

pub returns-in-None-clause-leads : goal.returns-in-None-clause-leads
returns-in-None-clause-leads c = λ p k.
    let taken = rw c.in-None.is at c.in_ok-take_choice.ensures in
    no_choice_leads p (whole c.args.rest.now c.args.control.now.items) (world_of c.args.state.now) (world_of c.take_choice.new.state) k taken
