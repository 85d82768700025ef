use Rattle.std.proofs.Common.{ℕ, arith}
use Rattle.std.proofs.lemmas.Grind.{common_steps}
use Rattle.std.proofs.lemmas.List.{get_or-replicate}
use Rattle.bt_run.proofs.counts.count_calls.Goals as goal

pub steps-init : goal.steps-init
steps-init c = λ place lt. get_or-replicate {A = ℕ} 37 place 0 0 lt

pub steps-preserved : goal.steps-preserved
steps-preserved c = λ place lt. grind (arith, common_steps, c.in_ok-add_calls.ensures place lt, c.steps.invariant place lt)
