use Rattle.bt_stack.specs.View.{world_of}
use Rattle.bt_machine.specs.inner.Loop.{counts}
use Rattle.bt_machine.proofs.IdiomLemmas.{given_at_once}
use Rattle.bt_machine.proofs.idioms.put_name.Goals as goal

pub returns-in_ok-assign_value-in-Some-clause-leads : goal.returns-in_ok-assign_value-in-Some-clause-leads
returns-in_ok-assign_value-in-Some-clause-leads c = λ p.
    let fs = c.args.control.now.items in
    given_at_once p c.args.name c.args.rest.now c.in-Some.after.now fs (world_of c.args.state.now) (world_of c.assign_value.new.state) (counts c.args.tally.now) (counts c.take.new.self) c.in-Some.ensures.some c.in-Some.ensures.few c.take.ensures.ticks c.take.ensures.calls c.in-Some.ensures.behind c.in_ok-assign_value-in-Some.ensures
