-- Definitions beside those of `specs/Edits.antt` that only laws need.
use Rattle.std.specs.Prelude.{◌≡◌, Bool, List, length}
use Rattle.bibtex.specs.declared.state.State.{State}
use Rattle.bt_serve.specs.Commands.{Command, state_after, MayRunOutInTurn}

-- the second state is the one after these commands, for some choice of the edits that were refused as out of memory
abbrev pub ComesAfter : List Command → State → State → Type 0
ComesAfter cs state state' =
    (ms : List Bool) × (length ms ≡ length cs) × MayRunOutInTurn ms cs state × (state' ≡ state_after ms cs state)
