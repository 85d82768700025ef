-- The names of steps. No two steps of a run have the same name, so an earlier step is found by it.
use Rattle.std.specs.Prelude.{◌≡◌, ◌≤◌, ◌<◌, ℕ, List, Bool, Some, None, MatchOption, length, sum_by, slice_get, true, false, if◌then◌else◌}
use Rattle.bt_run.specs.declared.course.Step.{Step}
use Rattle.bt_run.specs.declared.index.Index.{Index}
use Rattle.bt_run.specs.declared.index.StepName.{StepName}
use Rattle.bt_run.specs.inner.Index.{place_at, same_name, step_name}

abbrev pub once_if : Bool → ℕ
once_if b = if b then 1 else 0

-- whether a step has this name
abbrev pub is_named : StepName → Step → Bool
is_named name s = same_name name (step_name s.command s.input)

-- how many steps have it
abbrev pub count_named : StepName → List Step → ℕ
count_named name ss = sum_by (λ (s : Step). once_if (is_named name s)) ss

-- Each step has a name of its own: a command takes one step at most for a key.
abbrev pub HaveDistinctNames : List Step → Type 0
HaveDistinctNames ss = (name : StepName) → count_named name ss ≤ 1

-- whether there is a step at a place and it has this name
abbrev pub named_at : StepName → List Step → ℕ → Bool
named_at name ss k = elim (slice_get ss k) [ None ↦ false | Some s ↦ is_named name s ]

abbrev pub IsNamedAt : StepName → List Step → ℕ → Type 0
IsNamedAt name ss k = named_at name ss k ≡ true

-- None of the first n steps has this name.
abbrev pub IsUnnamedTo : ℕ → StepName → List Step → Type 0
IsUnnamedTo n name ss = (k : ℕ) → k < n → named_at name ss k ≡ false

abbrev pub IsUnnamed : StepName → List Step → Type 0
IsUnnamed name ss = IsUnnamedTo (length ss) name ss

-- What the index gives for a name: the place of a step that has it, or None if none of the first n steps has it.
abbrev pub IsIndexTo : ℕ → List Step → Index → Type 0
IsIndexTo n ss index =
    (name : StepName) → MatchOption (place_at index name) (IsUnnamedTo n name ss) (IsNamedAt name ss)

-- The same, for all steps.
pub record IsIndex (ss : List Step) (index : Index) : Type 0 where
  pub finds : IsIndexTo (length ss) ss index
