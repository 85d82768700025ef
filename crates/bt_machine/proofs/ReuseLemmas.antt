-- What an earlier step leaves for an input that agrees with its own.
use Rattle.std.proofs.Common.{◌≡◌, ℕ, true, List, refl, sym, ap, ◌∙◌}
use Rattle.bt_style.specs.declared.style.Target.{Target}
use Rattle.bt_style.specs.Program.{Program}
use Rattle.bt_style.specs.Reach.{is_among}
use Rattle.bt_actions.specs.declared.entry.Variables.{Variables}
use Rattle.bt_machine.specs.declared.input.Input.{Input}
use Rattle.bt_machine.specs.declared.outcome.Outcome.{Outcome}
use Rattle.bt_machine.specs.Step.{step_in, outcome_of}
use Rattle.bt_machine.specs.Footprint.{blend_variables}
use Rattle.bt_machine.specs.inner.Footprint.{among}
use Rattle.bt_machine.specs.AgreementLaws.{Agree, IsFootprint, outcome_over}
use Rattle.bt_machine.specs.Agreement.{same_counts, same_variables}
use Rattle.bt_machine.proofs.Comparing.{variables_equal}
use Rattle.bt_machine.proofs.Agreeing.{agreeing_inputs, agreeing_reach, rest_stays}

-- variables that have all that was left
pub has_left : (ns ts : List ℕ) (v b : Variables) → same_counts v b ≡ true → same_variables ns ts v b ≡ true → b ≡ blend_variables (among ns) (among ts) v b
has_left ns ts v b counts values = sym (variables_equal (among ns) (among ts) ns ts v b (λ n. refl) (λ n. refl) counts values)

-- an earlier step left all else as it was
pub earlier_rest : (p : Program) (names : List Target) (i j : Input) (o : Outcome) → o ≡ outcome_of (step_in p i) → IsFootprint p j names → Agree (is_among names) i j → o ≡ outcome_over (is_among names) i o
earlier_rest p names i j o e h a = rest_stays p i o e names ((agreeing_reach p names i j a).1 h)

-- over an input that agrees, what it left is what the step of that input leaves
pub earlier_step : (p : Program) (names : List Target) (i j : Input) (o : Outcome) → o ≡ outcome_of (step_in p i) → IsFootprint p j names → Agree (is_among names) i j → outcome_over (is_among names) j o ≡ outcome_of (step_in p j)
earlier_step p names i j o e h a =
    ap (outcome_over (is_among names) j) e ∙ sym (((agreeing_inputs p names i j a).1 h).0)
