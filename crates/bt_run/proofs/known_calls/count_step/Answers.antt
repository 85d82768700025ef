use Rattle.bt_run.proofs.TurnLemmas.{calls_shared}
use Rattle.bt_run.proofs.known_calls.count_step.Goals as goal

pub returns-then-turn : goal.returns-then-turn
returns-then-turn c = λ steps were x e.
    calls_shared c.args.earlier.now steps c.args.step.now c.args.turn.from c.args.turn.next x (c.requires c.if-turn.true) (were x e)
