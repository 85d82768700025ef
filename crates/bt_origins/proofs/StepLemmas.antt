-- What the steps of a run did is what the definition gives.
use Rattle.std.proofs.Common.{◌≡◌, refl, ap, ◌∙◌, List, [], ◌∷◌, ℕ, Option, map}
use Rattle.std.specs.Prelude.{All}
use Rattle.std.proofs.lemmas.List.Elements.{All-head, All-tail}
use Rattle.bt_style.specs.Program.{Program}
use Rattle.bt_run.specs.declared.course.Step.{Step}
use Rattle.bt_run.specs.Steps.{StepsAre}
use Rattle.bt_run.specs.Work.{IsStep}
use Rattle.bt_why.specs.declared.rerun.Rerun.{Rerun}
use Rattle.bt_why.specs.Erased.{Effect, rerun_effect}
use Rattle.bt_origins.specs.Steps.{AreMeant, effect_in, step_effect}

steps_meant : (p : Program) (steps : List Step) → All (IsStep p) steps →
    map step_effect steps ≡ map (λ (s : Step). effect_in p s.input) steps
steps_meant p [] all = refl
steps_meant p (s ∷ steps) all =
    ap (λ (t : Step). step_effect t ∷ map step_effect steps) (All-head (IsStep p) s steps all).is
    ∙ ap (λ (es : List Effect). effect_in p s.input ∷ es) (steps_meant p steps (All-tail (IsStep p) s steps all))

-- what did the same as the steps of a style did what the definition gives
pub are_meant : (text : Option (List ℕ)) (steps : List Step) (reruns : List Rerun) → StepsAre text steps →
    map rerun_effect reruns ≡ map step_effect steps → AreMeant text steps reruns
are_meant text steps reruns are same t p has reads = same ∙ steps_meant p steps (are t p has reads)
