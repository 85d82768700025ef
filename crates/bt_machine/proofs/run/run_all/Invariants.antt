use Rattle.std.proofs.Common.{◌≡◌, ◌+◌, ◌*◌, length}
use Rattle.bt_style.specs.Program.{program_of}
use Rattle.bt_style.specs.Tree.{End, Then, Called}
use Rattle.bt_stack.specs.View.{world_of}
use Rattle.bt_machine.specs.Eval.{eval}
use Rattle.bt_machine.specs.inner.Loop.{counts, left, whole}
use Rattle.bt_machine.proofs.run.run_all.Given as goal

-- what is left from here is what was left at first
abbrev pub invariant-work : goal.invariant-work
invariant-work l =
    left (program_of l.context.style.now) (whole l.rest l.control.items) (world_of l.state) (counts l.tally)
    ≡ eval (program_of l.context.style.now) (Then (Called l.fn.first) End) (world_of l.fn.state) (counts l.fn.tally)

abbrev pub decreases-work : goal.decreases-work
decreases-work l = 10000 * l.tally.ticks + 8 * length l.state.stack.items + length l.control.items
