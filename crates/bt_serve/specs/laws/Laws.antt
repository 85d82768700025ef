-- What the laws of the crate say. `proofs/laws/Laws.antt` proves them.
use Rattle.std.specs.Prelude.{◌≡◌, ℕ, List, [], ◌∷◌, ◌++◌, true, Ok, Err, Bool, length}
use Rattle.std.specs.List.{AllByRecursion, flat_map}
use Rattle.bibtex.specs.declared.state.State.{State}
use Rattle.bt_serve.specs.Commands.{Command, command_text, state_after}
use Rattle.bt_serve.specs.Serves.{IsCommand, IsCut, Ends}
use Rattle.bt_serve.specs.laws.Serves.{IsBare}
use Rattle.bt_serve.specs.Whole.{commands_of, AnswersAll, AnswersBefore, AnswersPart}
use Rattle.bt_serve.specs.declared.fault.ServeFault.TheVariants.{WriteFailed, Truncated}
use Rattle.bt_serve.specs.Edits.{edits_of, Leads}
use Rattle.bt_serve.specs.laws.Edits.{ComesAfter}

-- Complete commands that were joined are cut apart where they were, whatever incomplete command follows. The last line
-- feed may be missing if its command brings no bytes.
pub record CommandsOfJoined : Type 0 where
  pub whole : (cs : List Command) → AllByRecursion IsCommand cs →
      commands_of (flat_map command_text cs) ≡ record { commands = cs; rest = [] }
  pub cut : (cs : List Command) (rest : List ℕ) → AllByRecursion IsCommand cs → IsCut rest →
      commands_of (flat_map command_text cs ++ rest) ≡ record { commands = cs; rest = rest }
  pub last : (cs : List Command) (c : Command) → AllByRecursion IsCommand cs → IsBare c →
      commands_of (flat_map command_text cs ++ c.line) ≡ record { commands = cs ++ c ∷ []; rest = [] }

-- What the turns of the loop amount to, by how it ends. After its last turn, all commands up to the one that ends it
-- are answered; if the input ends inside the bytes of its last command, all commands before that one; if a write
-- failed, all commands before some command, and of its answer a prefix is written.
pub record TurnsAnswerCommands : Type 0 where
  pub all : (input rest said said' : List ℕ) (s t : State) → Ends input rest said said' s t (Ok true) →
      AnswersAll input said said' s t
  pub truncated : (input rest said said' : List ℕ) (s t : State) →
      Ends input rest said said' s t (Err Truncated) → AnswersBefore input said said' s t × (rest ≡ [])
  pub part : (input rest said said' : List ℕ) (s t : State) →
      Ends input rest said said' s t (Err WriteFailed) → AnswersPart input said said' s t

-- The states after commands are exactly those to which `edit_all` of their edits can lead.
pub record EditsOfCommands : Type 0 where
  pub leads : (cs : List Command) (ms : List Bool) (state : State) → length ms ≡ length cs →
      Leads (edits_of cs) state (state_after ms cs state)
  pub only : (cs : List Command) (state state' : State) → Leads (edits_of cs) state state' →
      ComesAfter cs state state'
