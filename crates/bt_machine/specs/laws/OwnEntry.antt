-- Equal inputs have equal outcomes, wherever their entries stand.
use Rattle.std.specs.Prelude.{◌≡◌, ℕ, Option}
use Rattle.bt_style.specs.declared.style.Target.{Target}
use Rattle.bt_style.specs.Program.{Program}
use Rattle.bt_actions.specs.World.{World}
use Rattle.bt_machine.specs.Step.{step, own}
use Rattle.bt_machine.specs.OwnEntry.{IsPlace, cut}

-- equal inputs give equal outcomes and costs, at another place of another run
abbrev pub SameInputSameOutcome : Program → Type 0
SameInputSameOutcome p =
    (x x' : Option ℕ) (t : Target) (w w' : World) → IsPlace x w → IsPlace x' w' → cut x w ≡ cut x' w' →
    own x w (step p x t w) ≡ own x' w' (step p x' t w')
