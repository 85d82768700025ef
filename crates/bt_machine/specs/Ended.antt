-- What a step leaves that has ended.
use Rattle.std.specs.Prelude.{ℕ, List}
use Rattle.bt_actions.specs.declared.flow.Flow.{Flow}
use Rattle.bt_actions.specs.declared.tally.Tally.{Tally}
use Rattle.bt_stack.specs.declared.leaving.Left.{Left}
use Rattle.bt_machine.specs.declared.outcome.Outcome.{Outcome}
use Rattle.bt_machine.specs.inner.Loop.{is_stop}

abbrev pub outcome_left : Left → List (List ℕ) → Flow → Tally → Outcome
outcome_left left lines flow tally = record {
  globals = left.variables.0;
  variables = left.variables.1;
  held = left.held;
  lines = lines;
  messages = left.messages;
  stop = is_stop flow;
  calls = tally.calls;
}
