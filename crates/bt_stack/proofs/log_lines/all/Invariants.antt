use Rattle.std.proofs.Common.{◌≡◌}
use Rattle.std.specs.Prelude.{length}
use Rattle.bt_style.specs.Program.{program_of}
use Rattle.bt_actions.specs.LogLines.{log_stack}
use Rattle.bt_stack.specs.View.{world_of}
use Rattle.bt_stack.proofs.log_lines.all.Given as goal

abbrev pub invariant-values : goal.invariant-values
invariant-values l =
    log_stack (program_of l.style) (world_of l.state) ≡ log_stack (program_of l.initial.style) (world_of l.initial.state)

abbrev pub decreases-values : goal.decreases-values
decreases-values l = length l.state.stack.items
