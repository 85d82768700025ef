-- What the values of the code are in the definitions.
use Rattle.std.specs.Prelude.{ℕ, List, map}
use Rattle.bt_style.specs.Program.{Program}
use Rattle.bt_actions.specs.declared.code.Code.{Code as HeldCode}
use Rattle.bt_actions.specs.View.{code_seen}
use Rattle.bt_sound.specs.declared.known.Known.{Known as HeldKnown}
use Rattle.bt_sound.specs.declared.known.Known.TheVariants as held
use Rattle.bt_sound.specs.declared.state.State.{State as HeldState}
use Rattle.bt_sound.specs.Known.{Known, Number, Text, Run, State}
use Rattle.bt_sound.specs.Follows.{Turned}

abbrev pub known_seen : HeldKnown → Known
known_seen (held.Number r) = Number r
known_seen (held.Text m) = Text m
known_seen (held.Run c) = Run (code_seen c)

-- a stack, its top first
abbrev pub knowns_seen : List HeldKnown → List Known
knowns_seen ks = map known_seen ks

abbrev pub state_seen : HeldState → State
state_seen s = record { stack = knowns_seen s.stack.items; entry = s.entry; globals = s.globals }

abbrev pub states_seen : List HeldState → List State
states_seen ss = map state_seen ss

-- one turn of a loop with this test and this body
abbrev pub TurnedSeen : Program → List ℕ → HeldCode → HeldCode → List HeldState → List HeldState → List HeldState → Type 0
TurnedSeen p types test body heads back ends =
    Turned p types (code_seen test) (code_seen body) (states_seen heads) (states_seen back) (states_seen ends)
