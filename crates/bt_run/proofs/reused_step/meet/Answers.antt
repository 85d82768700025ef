use Rattle.bt_run.proofs.StepNameLemmas.{met_none, met_some, named_met, unnamed_none}
use Rattle.bt_run.proofs.reused_step.meet.Goals as goal

pub returns-in-None-clause-met : goal.returns-in-None-clause-met
returns-in-None-clause-met c =
    unnamed_none c.args.sought c.args.earlier.now.steps (met_none _ _ c.in_ok-found.found c.in-None.is c.in_ok-found.ensures.place)

pub returns-in-Some-clause-met : goal.returns-in-Some-clause-met
returns-in-Some-clause-met c =
    let sought = c.args.sought in
    let earlier = c.args.earlier.now in
    let place = c.in-Some.place in
    named_met _ c.like_at.result sought earlier.steps place earlier.named (met_some _ _ c.in_ok-found.found place c.in-Some.is c.in_ok-found.ensures.place)
    c.like_at.ensures
