use Rattle.std.proofs.Common.{◌∙◌, ap}
use Rattle.bt_style.specs.Program.{program_of}
use Rattle.bt_style.specs.Tree.{End, Then, Called}
use Rattle.bt_stack.specs.View.{world_of}
use Rattle.bt_machine.specs.Eval.{Counts, eval}
use Rattle.bt_machine.proofs.run.work.Goals as goal

pub returns : goal.returns
returns c =
    c.in_ok-flow.ensures
    ∙ ap (λ (k : Counts). eval (program_of c.args.context.style.now) (Then (Called c.args.first) End) (world_of c.args.state.now) k) (λ j. (c.new-tally.ensures.ticks j, c.new-tally.ensures.calls j))
