-- The laws of the crate, which no code needs. `specs/laws` has what they say.
use Rattle.bt_style.specs.Program.{Program}
use Rattle.bt_machine.specs.laws.OwnEntry.{SameInputSameOutcome}
use Rattle.bt_machine.proofs.laws.Local
use Rattle.bt_machine.specs.laws.Eval.{IsEvaluation}
use Rattle.bt_machine.specs.Eval.{eval}
use Rattle.bt_machine.proofs.laws.Equations
use Rattle.bt_machine.specs.laws.Fits.{ValuesFitAgain}
use Rattle.bt_machine.proofs.laws.Fitting
use Rattle.bt_machine.specs.laws.Step.{CostsWithin}
use Rattle.bt_machine.proofs.laws.Costs
use Rattle.bt_machine.specs.Footprint.{StaysInFootprint}
use Rattle.bt_machine.proofs.OverStep
use Rattle.bt_machine.specs.AgreementLaws.{LeavesTheRest, AgreeingInputsSameReach}
use Rattle.bt_machine.proofs.Agreeing

-- Equal inputs give equal outcomes and costs, also at another place of another run.
pub equal_inputs_give_equal_outcomes : (p : Program) → SameInputSameOutcome p
equal_inputs_give_equal_outcomes = Local.same_input

-- What a body does, by four equations.
pub evaluation : (p : Program) → IsEvaluation p (eval p)
evaluation = Equations.is_evaluation

-- Where a step's values fit, those that it leaves fit again: there are as many numbers and texts among the globals and
-- among the entry's variables as there were, and no text is longer than 65,536 bytes.
pub values_fit_again : (p : Program) → ValuesFitAgain p
values_fit_again = Fitting.values_fit_again

-- A step costs 1,000,000 ticks at most.
pub step_costs_within_the_limit : (p : Program) → CostsWithin p
step_costs_within_the_limit = Costs.costs_within

-- A step over any input does what it does: it reads kept names alone, and leaves all else as it was.
pub step_stays_in_its_footprint : (p : Program) → StaysInFootprint p
step_stays_in_its_footprint = OverStep.stays_in_footprint

-- A step leaves what it does not come to as it was.
pub step_leaves_the_rest : (p : Program) → LeavesTheRest p
step_leaves_the_rest = Agreeing.leaves_the_rest

-- Inputs that agree have the same reach: where they agree in some names, these are what the step of the one may come
-- to where they are for the other.
pub agreeing_inputs_have_one_reach : (p : Program) → AgreeingInputsSameReach p
agreeing_inputs_have_one_reach = Agreeing.agreeing_reach
