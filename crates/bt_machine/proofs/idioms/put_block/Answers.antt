use Rattle.bt_actions.specs.Item.{Block}
use Rattle.bt_actions.specs.View.{code_seen}
use Rattle.bt_style.specs.Tree.{ops_body}
use Rattle.bt_stack.specs.View.{world_of}
use Rattle.bt_machine.specs.inner.Loop.{counts}
use Rattle.bt_machine.proofs.IdiomLemmas.{chosen_at_once}
use Rattle.bt_machine.proofs.idioms.put_block.Goals as goal

pub returns-in_ok-body-in-Some-clause-leads : goal.returns-in_ok-body-in-Some-clause-leads
returns-in_ok-body-in-Some-clause-leads c = λ p.
    let all = c.in-Some in
    let chose = c.choose_at_once-code.ensures in
    let world = world_of c.choose_at_once-code.new.state in
    chosen_at_once p all.choice.number (Block (ops_body c.args.above.now)) (code_seen all.choice.other) (code_seen c.choose_at_once-code.result) c.args.rest.now all.choice.after.now c.in_ok-body-in-Some.body.now c.args.control.now.items c.begin_or_skip.new.control.items (world_of c.args.state.now) world (counts c.args.tally.now) (counts c.choose_at_once-code.new.tally) (counts c.begin_or_skip.new.tally) all.ensures.number all.ensures.few chose.ticks chose.calls all.ensures.behind chose.world chose.code (c.in_ok-body-in-Some.ensures.same p world)
