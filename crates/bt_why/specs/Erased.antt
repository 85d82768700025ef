-- What steps left without their marks.
use Rattle.std.specs.Prelude.{ℕ, Bool, List, [], ◌∷◌, ◌++◌, Option, map, option_map}
use Rattle.bt_log.specs.declared.message.Message.{Message}
use Rattle.bt_actions.specs.declared.entry.Variables as plain
use Rattle.bt_machine.specs.declared.outcome.Outcome.{Outcome}
use Rattle.bt_marks.specs.Bytes.{text_bytes, line_bytes, lines_bytes}
use Rattle.bt_why.specs.declared.values.Variables.{Variables}
use Rattle.bt_why.specs.declared.rerun.Rerun.{Rerun}

-- variables
abbrev pub plain_variables : Variables → plain.Variables
plain_variables v = record { numbers = v.numbers.items; texts = map (λ text. text_bytes text.items) v.texts.items }

-- what a step does: the variables and the held line after it, its lines and messages, whether it ends the run, its ticks
pub record Effect : Type 0 where
  pub globals : plain.Variables
  pub variables : Option plain.Variables
  pub held : List ℕ
  pub lines : List (List ℕ)
  pub messages : List Message
  pub stop : Bool
  pub cost : ℕ

-- an outcome, apart from how often each built-in function was called
abbrev pub effect_of : Outcome → ℕ → Effect
effect_of o cost =
    record {
      globals = o.globals;
      variables = o.variables;
      held = o.held;
      lines = o.lines;
      messages = o.messages;
      stop = o.stop;
      cost = cost;
    }

-- what a step with marks did, without the marks
abbrev pub rerun_effect : Rerun → Effect
rerun_effect r =
    record {
      globals = plain_variables r.globals;
      variables = option_map plain_variables r.variables;
      held = line_bytes r.held.items;
      lines = map (λ line. line_bytes line.items) r.left.lines.items;
      messages = r.messages;
      stop = r.left.stop;
      cost = r.left.ticks;
    }

-- the lines of some steps
abbrev pub steps_bytes : List Rerun → List ℕ
steps_bytes [] = []
steps_bytes (step ∷ steps) = lines_bytes step.left.lines.items ++ steps_bytes steps
