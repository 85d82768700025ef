-- What the steps of a run did, and what those of its marked run did.
use Rattle.std.specs.Prelude.{◌≡◌, ℕ, List, Option, Some, Ok, map}
use Rattle.bt_style.specs.Program.{Program}
use Rattle.bt_style.specs.Reader.{style_of}
use Rattle.bt_machine.specs.declared.input.Input.{Input}
use Rattle.bt_machine.specs.Step.{step_in, outcome_of}
use Rattle.bt_run.specs.declared.course.Step.{Step}
use Rattle.bt_why.specs.declared.rerun.Rerun.{Rerun}
use Rattle.bt_why.specs.Erased.{Effect, effect_of, rerun_effect}

-- what a step did
abbrev pub step_effect : Step → Effect
step_effect s = effect_of s.outcome s.cost

-- what the definition of a step gives for an input
abbrev pub effect_in : Program → Input → Effect
effect_in p i = effect_of (outcome_of (step_in p i)) (step_in p i).cost

-- Without marks, what the steps of a marked run did is what the definition gives for the inputs of the run's steps, under
-- the style that a text describes.
abbrev pub AreMeant : Option (List ℕ) → List Step → List Rerun → Type 0
AreMeant text steps reruns =
    (t : List ℕ) (p : Program) → text ≡ Some t → style_of t ≡ Ok p →
    map rerun_effect reruns ≡ map (λ s. effect_in p s.input) steps
