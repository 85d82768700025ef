-- What an ended step leaves.
use Rattle.std.proofs.Common.{◌≡◌, refl, ◌∙◌}
use Rattle.std.specs.Prelude.{Option, Some, None, option_map}
use Rattle.std.specs.Borrow.{Bor}
use Rattle.bt_actions.specs.declared.entry.Entry.{Entry}
use Rattle.bt_actions.specs.declared.entry.Variables.{Variables}
use Rattle.bt_actions.specs.declared.flow.Flow.{Flow}
use Rattle.bt_actions.specs.declared.tally.Tally.{Tally}
use Rattle.bt_actions.specs.World.{entry_in}
use Rattle.bt_stack.specs.declared.leaving.Left.{Left}
use Rattle.bt_stack.specs.declared.state.State.{State}
use Rattle.bt_stack.specs.View.{world_of, left_of, entries_seen, place_seen}
use Rattle.bt_machine.specs.Step.{first_variables, finished_at, outcome_of}
use Rattle.bt_machine.specs.Ended.{outcome_left}
use Rattle.bt_machine.specs.inner.Loop.{counts, is_stop}

-- The entry's variables are those of the first entry of the step's world.
first_own : (entry : Option (Bor Entry)) (own : Variables) → option_map (λ (e : Entry). e.variables) (entry_in (entries_seen entry own) (place_seen entry)) ≡ first_variables (entries_seen entry own)
first_own None own = refl
first_own (Some entry) own = refl

pub ended_outcome : (s : State) (left : Left) (flow : Flow) (tally : Tally) → left ≡ left_of (world_of s) → outcome_left left left.lines flow tally ≡ outcome_of (finished_at (world_of s) (is_stop flow) (counts tally))
ended_outcome s left flow tally is =
    (λ j. outcome_left (is j) (is j).lines flow tally)
    ∙ (λ j. record {
      globals = s.stack.globals;
      variables = first_own s.entry s.stack.own j;
      held = s.held;
      lines = s.lines;
      messages = (world_of s).messages;
      stop = is_stop flow;
      calls = tally.calls;
    })
