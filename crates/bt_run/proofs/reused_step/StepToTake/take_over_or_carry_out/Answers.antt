use Rattle.std.proofs.Common.{sym, ap, subst, arith}
use Rattle.bt_style.specs.declared.reach.Reach.{Reach}
use Rattle.bt_style.specs.Program.{program_of}
use Rattle.bt_machine.specs.AgreementLaws.{IsFootprint}
use Rattle.bt_machine.proofs.ReuseLemmas.{earlier_rest}
use Rattle.bt_run.specs.declared.reuse.Reuse.{Reuse}
use Rattle.bt_run.specs.Work.{IsStep}
use Rattle.bt_run.proofs.StepNameLemmas.{met_some, met_none}
use Rattle.bt_run.proofs.WorkLemmas.{step_of, own_outcome, taken_cost, taken_counted, ran_counted}
use Rattle.bt_run.proofs.reused_step.StepToTake.take_over_or_carry_out.Goals as goal

pub take_over-requires : goal.take_over-requires
take_over-requires c =
    let p = program_of c.args.self.style.now in
    let met = met_some _ _ c.in_ok-met.met c.in-Some.step c.in-Some.is c.in_ok-met.ensures.met in
    let step = c.in-Some.step.now in
    let own : IsStep p step = step_of p c.args.self.earlier.now.steps step c.args.self.steps met.0 in
    let reached = subst (λ (r : Reach). IsFootprint p c.args.self.input.now r.targets) (sym c.deref-reach.ensures) c.in_ok-known.ensures.reach in
    earlier_rest p c.deref-reach.result.now.targets step.input c.args.self.input.now step.outcome (own_outcome p step own) reached met.1.agree

pub returns-in-Some-clause-outcome : goal.returns-in-Some-clause-outcome
returns-in-Some-clause-outcome c =
    let p = program_of c.args.self.style.now in
    let met = met_some _ _ c.in_ok-met.met c.in-Some.step c.in-Some.is c.in_ok-met.ensures.met in
    let own : IsStep p c.in-Some.step.now = step_of p c.args.self.earlier.now.steps c.in-Some.step.now c.args.self.steps met.0 in
    let reached = subst (λ (r : Reach). IsFootprint p c.args.self.input.now r.targets) (sym c.deref-reach.ensures) c.in_ok-known.ensures.reach in
    c.in_ok-taken-in-Some.ensures.outcome p (own_outcome p c.in-Some.step.now own) reached met.1.agree

pub returns-in-Some-clause-cost : goal.returns-in-Some-clause-cost
returns-in-Some-clause-cost c =
    let p = program_of c.args.self.style.now in
    let met = met_some _ _ c.in_ok-met.met c.in-Some.step c.in-Some.is c.in_ok-met.ensures.met in
    let step = c.in-Some.step.now in
    let own : IsStep p step = step_of p c.args.self.earlier.now.steps step c.args.self.steps met.0 in
    let reached = subst (λ (r : Reach). IsFootprint p c.args.self.input.now r.targets) (sym c.deref-reach.ensures) c.in_ok-known.ensures.reach in
    taken_cost p c.deref-reach.result.now.targets c.args.self.input.now step c.in_ok-taken-in-Some.taken.cost (c.agreeing_inputs_have_one_step.ensures p) reached own met.1.agree c.in_ok-taken-in-Some.ensures.cost

pub returns-in-Some-clause-counted : goal.returns-in-Some-clause-counted
returns-in-Some-clause-counted c =
    let met = met_some _ _ c.in_ok-met.met c.in-Some.step c.in-Some.is c.in_ok-met.ensures.met in
    let d = c.in_ok-taken-in-Some.taken in
    taken_counted (program_of c.args.self.style.now) c.args.self.earlier.now.steps c.args.self.command c.deref-reach.result.now.targets c.args.self.input.now c.in-Some.step.now d.outcome d.cost c.args.reuse.now c.meet.new.reuse
    (subst (λ (r : Reach). IsFootprint (program_of c.args.self.style.now) c.args.self.input.now r.targets) (sym c.deref-reach.ensures) c.in_ok-known.ensures.reach) c.args.self.steps met.0 met.1
    (ap (λ (r : Reuse). r.ran) c.in_ok-met.ensures.rest) (ap (λ (r : Reuse). r.meter) c.in_ok-met.ensures.rest)

pub returns-clause-counted : goal.returns-clause-counted
returns-clause-counted c =
    let none = met_none _ _ c.in_ok-met.met c.in-None.is c.in_ok-met.ensures.met in
    let d = c.in_ok-ran-in-None.ran in
    ran_counted (program_of c.args.self.style.now) c.args.self.earlier.now.steps c.args.self.command c.deref-reach.result.now.targets c.args.self.input.now d.outcome d.cost c.args.reuse.now c.carry_out_step.new.reuse
    (subst (λ (r : Reach). IsFootprint (program_of c.args.self.style.now) c.args.self.input.now r.targets) (sym c.deref-reach.ensures) c.in_ok-known.ensures.reach) none
    (omega (arith, c.in_ok-ran-in-None.ensures.ran, ap (λ (r : Reuse). r.ran) c.in_ok-met.ensures.rest))
    (omega (arith, c.in_ok-ran-in-None.ensures.ticks, ap (λ (r : Reuse). r.meter) c.in_ok-met.ensures.rest, c.in_ok-ran-in-None.ensures.cost))
