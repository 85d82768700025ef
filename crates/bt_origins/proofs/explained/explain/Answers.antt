use Rattle.std.proofs.Common.{rules}
use Rattle.bt_origins.proofs.StepLemmas.{are_meant}
use Rattle.bt_origins.proofs.explained.explain.Goals as goal

pub returns-clause-meaning : goal.returns-clause-meaning
returns-clause-meaning c =
    are_meant c.args.kept.now.text c.args.kept.now.steps c.in-Ok.explained.steps.items c.args.kept.now.true_steps
    (search (rules))
