-- What one turn of the loop does, if the source and the sink show their bytes.
use Rattle.std.specs.Prelude.{◌≡◌, ℕ, ◌<◌, ◌++◌, ◌≢◌, ◌⊎◌, flat_map, Bool, true, false, List, [], ◌∷◌, length, Some, Result, Ok, Err}
use Rattle.std.specs.List.{AllByRecursion}
use Rattle.bt_streams.specs.Reads.{HasNoFeed}
use Rattle.bibtex.specs.declared.state.State.{State}
use Rattle.bt_streams.specs.Seen.{Drawn, Sunk}
use Rattle.bt_serve.specs.Commands.{bytes_brought, ends, request_of, Command, command_text, answer, after, answers_to, state_after, MayRunOut, MayRunOutInTurn}
use Rattle.bt_serve.specs.declared.fault.ServeFault.{ServeFault}
use Rattle.bt_serve.specs.declared.fault.ServeFault.TheVariants.{ReadFailed, WriteFailed, Truncated}

-- a line, and the bytes that it asks for
abbrev pub IsCommand : Command → Type 0
IsCommand c = HasNoFeed c.line × (length c.bytes ≡ bytes_brought (request_of c.line))

-- a command at the end of an input, without a line feed
abbrev pub IsLast : Command → List ℕ → List ℕ → Type 0
IsLast c input rest = (c.line ≢ []) × (c.bytes ≡ []) × (input ≡ c.line) × (rest ≡ [])

-- less than a whole command: a line without its end, or fewer bytes than the line asks for
abbrev pub IsPartial : List ℕ → Type 0
IsPartial text =
    HasNoFeed text ⊎ ((line : List ℕ) × (bytes : List ℕ) × HasNoFeed line × (text ≡ line ++ 10 ∷ bytes) ×
    (length bytes < bytes_brought (request_of line)))

-- a whole input that ends inside the bytes that its last line asks for
abbrev pub IsCut : List ℕ → Type 0
IsCut text =
    (line : List ℕ) × (bytes : List ℕ) × HasNoFeed line ×
    ((text ≡ line ++ 10 ∷ bytes) ⊎ ((text ≡ line) × (bytes ≡ []))) × (length bytes < bytes_brought (request_of line))

-- One turn of the loop: what is left of the input after it, what is written by then, and the state. `Ok true` ends it.
abbrev pub Turn : List ℕ → List ℕ → List ℕ → List ℕ → State → State → Result Bool ServeFault → Type 0
Turn input rest said said' state state' (Ok false) =
    (c : Command) × (ran_out : Bool) × IsCommand c × (input ≡ command_text c ++ rest) ×
    (false ≡ ends (request_of c.line)) ×
    (said' ≡ said ++ answer ran_out state c) × (state' ≡ after ran_out state c) ×
    MayRunOut ran_out state (request_of c.line) c.bytes
Turn input rest said said' state state' (Ok true) =
    ((input ≡ []) × (rest ≡ []) × (said' ≡ said) × (state' ≡ state)) ⊎
    ((c : Command) × (ran_out : Bool) × IsCommand c ×
    (((input ≡ command_text c ++ rest) × (true ≡ ends (request_of c.line))) ⊎ IsLast c input rest) ×
    (said' ≡ said ++ answer ran_out state c) × (state' ≡ after ran_out state c) ×
    MayRunOut ran_out state (request_of c.line) c.bytes)
Turn input rest said said' state state' (Err WriteFailed) =
    (c : Command) × (ran_out : Bool) × IsCommand c × ((input ≡ command_text c ++ rest) ⊎ IsLast c input rest) ×
    ((part : List ℕ) × (more : List ℕ) × (answer ran_out state c ≡ part ++ more) × (said' ≡ said ++ part)) ×
    (state' ≡ after ran_out state c) × MayRunOut ran_out state (request_of c.line) c.bytes
Turn input rest said said' state state' (Err ReadFailed) =
    (read : List ℕ) × (input ≡ read ++ rest) × IsPartial read × (said' ≡ said) × (state' ≡ state)
Turn input rest said said' state state' (Err Truncated) = IsCut input × (rest ≡ []) × (said' ≡ said) × (state' ≡ state)

-- These commands were read and answered, one after another, and none of them ends the loop.
pub record Answered (input rest said said' : List ℕ) (state state' : State) (cs : List Command) (ms : List Bool) :
    Type 0 where
  pub each : AllByRecursion IsCommand cs
  pub goes_on : AllByRecursion (λ c. false ≡ ends (request_of c.line)) cs
  pub one_each : length ms ≡ length cs
  pub read : input ≡ flat_map command_text cs ++ rest
  pub written : said' ≡ said ++ answers_to ms cs state
  pub edited : state' ≡ state_after ms cs state
  pub wanting : MayRunOutInTurn ms cs state

-- Commands were answered, and then this was the last turn.
abbrev pub Ends : List ℕ → List ℕ → List ℕ → List ℕ → State → State → Result Bool ServeFault → Type 0
Ends input rest said said' state state' result =
    (cs : List Command) × (ms : List Bool) × (mid : List ℕ) × (told : List ℕ) × (between : State) ×
    Answered input mid said told state between cs ms × Turn mid rest told said' between state' result

-- the result of the loop, as the result of its last turn
abbrev pub loop_ended : {A : Type 0} → Result A ServeFault → Result Bool ServeFault
loop_ended (Ok x) = Ok true
loop_ended (Err fault) = Err fault

-- the whole loop, if the source and the sink show their bytes
abbrev pub Serves : {A : Type 0} → Drawn → Drawn → Sunk → Sunk → State → State → Result A ServeFault → Type 0
Serves old new held held' state state' result = (input said : List ℕ) → old.rest ≡ Some input →
    held.contents ≡ Some said →
    (rest : List ℕ) × (said' : List ℕ) × (new.rest ≡ Some rest) × (held'.contents ≡ Some said') ×
    Ends input rest said said' state state' (loop_ended result)
