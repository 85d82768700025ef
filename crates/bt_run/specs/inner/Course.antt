-- What is put back into a run after a step.
use Rattle.std.specs.Prelude.{◌≡◌, sum_by, ℕ, ◌<◌, List, ◌++◌, All, length, slice_set, slice_index_or, Option, Some, None}
use Rattle.std.specs.List.{range_with_len}
use Rattle.bt_actions.specs.declared.entry.Variables.{Variables}
use Rattle.bt_actions.specs.declared.entry.Entry.{Entry}
use Rattle.bt_actions.specs.World.{no_entry}
use Rattle.bt_machine.specs.declared.outcome.Outcome.{Outcome}
use Rattle.bt_run.specs.declared.course.Course.{Course}
use Rattle.bt_run.specs.declared.course.CommandPlace.{CommandPlace}
use Rattle.bt_run.specs.Course.{Recorded}
use Rattle.bt_run.specs.inner.Cases.{all_told}

abbrev pub recorded : {S : Type 0} → Course → S → Recorded S
recorded r seen = record { course = r; seen = seen }

-- These are the places of so many entries, in some order.
pub record IsArranged (count : ℕ) (order : List ℕ) : Type 0 where
  pub below : All (λ n. n < count) order
  pub sums : (f : ℕ → ℕ) → sum_by f order ≡ sum_by f (range_with_len 0 count)

abbrev pub IsOrdered : Course → Type 0
IsOrdered r = IsArranged (length r.entries) r.order

-- What the code does with an outcome, which is no part of the meaning

abbrev pub with_variables : Option Variables → Entry → Entry
with_variables None e = e
with_variables (Some v) e = record e { variables = v }

abbrev pub variables_back : Option ℕ → Option Variables → List Entry → List Entry
variables_back None v entries = entries
variables_back (Some n) v entries = slice_set entries n (with_variables v (slice_index_or entries n no_entry))

-- What an outcome leaves of a run: the entry's variables are replaced, and its messages go to the end of the log.
abbrev pub put_back : CommandPlace → Option ℕ → Outcome → Course → Course
put_back site x o r =
    record r {
      entries = variables_back x o.variables r.entries;
      globals = o.globals;
      held = o.held;
      log = r.log ++ all_told site.line site.style o.messages;
      stopped = o.stop;
    }

-- a run that has given up its global variables and those of an entry, with others in their place
abbrev pub given_up : Option ℕ → Variables → Course → Course
given_up x others r = record r { entries = variables_back x (Some others) r.entries; globals = others }
