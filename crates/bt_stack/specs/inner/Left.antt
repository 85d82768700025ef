-- What the variables are that a step leaves.
use Rattle.std.specs.Prelude.{ℕ, List}
use Rattle.bt_actions.specs.declared.entry.Variables.{Variables}
use Rattle.bt_stack.specs.declared.variables_left.ChangedVariables.{ChangedVariables}
use Rattle.bt_stack.specs.inner.Kept.{texts_over, values_over}

-- the variables that a step was given, with its numbers and texts over them; the texts lie in the pool
abbrev pub changed_in : List ℕ → ChangedVariables → Variables
changed_in pool changed = record {
  numbers = values_over changed.numbers.items changed.given.numbers;
  texts = texts_over pool changed.texts.items changed.given.texts;
}
