use Rattle.std.proofs.Common.{◌≡◌, ap, ◌∙◌, ℕ, List}
use Rattle.bt_style.specs.declared.style.Target.{Target}
use Rattle.bt_style.specs.Program.{program_of}
use Rattle.bt_actions.specs.World.{World}
use Rattle.bt_stack.specs.View.{world_of}
use Rattle.bt_machine.specs.declared.input.Input.{Input}
use Rattle.bt_machine.specs.Step.{Finish, world_in, place_in, step, outcome_of}
use Rattle.bt_machine.specs.inner.Cases.{step_begun}
use Rattle.bt_machine.specs.inner.Loop.{counts}
use Rattle.bt_machine.proofs.EndedLemmas.{ended_outcome}
use Rattle.bt_machine.proofs.LoopLemmas.{step_finished}
use Rattle.bt_machine.proofs.step.run_step.Goals as goal

pub returns-clause-outcome : goal.returns-clause-outcome
returns-clause-outcome c =
    let p = program_of c.args.style.now in
    let input = c.args.input in
    let begun = step_begun (place_in input) (world_in input) in
    ended_outcome c.check_stack.new.state c.in_ok-left.left c.in_ok-flow.flow c.work.new.end c.in_ok-left.ensures
    ∙ ap outcome_of (step_finished p (place_in input) c.input.inside.target (world_in input) (world_of c.make_room.new.self) (world_of c.work.new.state) (world_of c.check_stack.new.state) c.in_ok-flow.flow (counts c.work.new.end)
    (c.in_ok-make_room.ensures ∙ ap (λ (w : World). record w { held = c.input.inside.held.now }) c.begin-state.ensures ∙ ap (λ (i : Input). record begun { held = i.held }) c.input.view_is)
    c.in_ok-flow.ensures c.in_ok-check_stack.ensures)
    ∙ ap (λ (i : Input). outcome_of (step p (place_in input) i.target (world_in input))) c.input.view_is

pub returns-clause-cost : goal.returns-clause-cost
returns-clause-cost c =
    let p = program_of c.args.style.now in
    let input = c.args.input in
    let begun = step_begun (place_in input) (world_in input) in
    ap (λ (f : Finish). f.cost) (step_finished p (place_in input) c.input.inside.target (world_in input) (world_of c.make_room.new.self) (world_of c.work.new.state) (world_of c.check_stack.new.state) c.in_ok-flow.flow (counts c.work.new.end)
    (c.in_ok-make_room.ensures ∙ ap (λ (w : World). record w { held = c.input.inside.held.now }) c.begin-state.ensures ∙ ap (λ (i : Input). record begun { held = i.held }) c.input.view_is)
    c.in_ok-flow.ensures c.in_ok-check_stack.ensures)
    ∙ ap (λ (i : Input). (step p (place_in input) i.target (world_in input)).cost) c.input.view_is
