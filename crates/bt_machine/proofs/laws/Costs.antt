-- A step's cost.
use Rattle.std.proofs.Common.{◌≤◌, arith}
use Rattle.bt_style.specs.Program.{Program}
use Rattle.bt_style.specs.Tree.{End, Then, Called}
use Rattle.bt_machine.specs.Eval.{Ending, Done, Stopped, eval}
use Rattle.bt_machine.specs.Step.{tick_limit}
use Rattle.bt_machine.specs.inner.Cases.{counts_begun, step_begun, finish_of}
use Rattle.bt_machine.specs.laws.Step.{CostsWithin}

-- at an ending
cost_within : (o : Ending) → (finish_of o).cost ≤ tick_limit
cost_within (Done w k) = omega arith
cost_within (Stopped w k) = omega arith

pub costs_within : (p : Program) → CostsWithin p
costs_within p x t w = cost_within (eval p (Then (Called t) End) (step_begun x w) counts_begun)
