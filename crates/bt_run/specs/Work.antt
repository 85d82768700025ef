-- What must run after an earlier run: the steps that the earlier run doesn't have.
use Rattle.std.specs.Prelude.{◌≡◌, ◌==◌, ◌&&◌, not, ℕ, Bool, true, false, List, Option, Some, None, filter, sum_by, bytes_eq}
use Rattle.std.specs.List.{list_any}
use Rattle.bt_style.specs.Program.{Program}
use Rattle.bt_machine.specs.Step.{Finish, Own, step_in, outcome_of}
use Rattle.bt_machine.specs.Agreement.{reach_by, agreement}
use Rattle.bt_run.specs.declared.course.Step.{Step}
use Rattle.bt_run.specs.Course.{step_kept}
use Rattle.bt_run.specs.Reached.{names_in}

-- the outcome and cost of a step in a world that has only its entry
abbrev pub own_left : Finish → Own
own_left f = record { outcome = outcome_of f; cost = f.cost }

-- a step has the key of its input, and the outcome and cost that the style gives for it
pub record IsStep (p : Program) (s : Step) : Type 0 where
  pub is : s ≡ step_kept s.command s.input (own_left (step_in p s.input))

-- Work

abbrev pub same_key : Option (List ℕ) → Option (List ℕ) → Bool
same_key None None = true
same_key None (Some k) = false
same_key (Some k) None = false
same_key (Some k) (Some l) = bytes_eq k l

-- Whether an earlier step does what a later one would do: they have the same command and key, and their inputs agree in
-- everything that the later one can reach.
unfoldable pub agrees_with : Program → Step → Step → Bool
agrees_with p t s =
    s.command == t.command && same_key s.key t.key && agreement (reach_by (names_in p t.input)) s.input t.input

-- whether earlier steps have such a one
abbrev pub was_done : Program → List Step → Step → Bool
was_done p earlier t = list_any (agrees_with p t) earlier

-- the work of steps: those that earlier steps of the same style do not have
unfoldable pub work_under : Program → List Step → List Step → List Step
work_under p earlier steps = filter (λ t. not (was_done p earlier t)) steps

-- the cost of steps
abbrev pub total_cost : List Step → ℕ
total_cost steps = sum_by (λ (s : Step). s.cost) steps
