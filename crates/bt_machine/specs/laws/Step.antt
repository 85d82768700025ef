-- A step costs no more than the limit.
use Rattle.std.specs.Prelude.{ℕ, ◌≤◌, Option}
use Rattle.bt_style.specs.declared.style.Target.{Target}
use Rattle.bt_style.specs.Program.{Program}
use Rattle.bt_actions.specs.World.{World}
use Rattle.bt_machine.specs.Step.{step, tick_limit}

-- what a step costs is at most the limit
abbrev pub CostsWithin : Program → Type 0
CostsWithin p = (x : Option ℕ) (t : Target) (w : World) → (step p x t w).cost ≤ tick_limit
