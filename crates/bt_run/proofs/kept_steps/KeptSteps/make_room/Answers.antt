use Rattle.bt_run.proofs.kept_steps.KeptSteps.make_room.Goals as goal

pub returns : goal.returns
returns c = λ j. record c.args.self.now { steps = c.reserve.ensures j; marks = c.reserve-2.ensures j }
