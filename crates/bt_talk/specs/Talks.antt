-- What is said to the frames of an input.
use Rattle.std.specs.Prelude.{◌≡◌, ℕ, Bool, true, false, List, [], ◌++◌, Some, Result, IfOk, flat_map}
use Rattle.serde_json.specs.Data.{Data}
use Rattle.serde_json.specs.Written.{compact_text}
use Rattle.bt_streams.specs.Seen.{Drawn, Sunk}
use Rattle.bt_frames.specs.Framed.{framed}
use Rattle.bt_rpc.specs.declared.answers.RpcError.{RpcError}
use Rattle.bt_talk.specs.Handled.{Mail, IsFrame, Handled}

-- messages, each in its frame
abbrev pub sent : List Data → List ℕ
sent messages = flat_map (λ m. framed (compact_text m)) messages

-- Each frame of an input, up to what is left of it, was handled once, in order, from one state of the desk to another.
-- The loop ends at the first frame after which the desk is over (the truth value is true), or where the input ends.
-- The bytes are what was said, each message in its frame.
pub data Talks {D : Type 0} (answers : D → List ℕ → Data → Result Data RpcError → List Data → D → Type 0)
    (notes : D → List ℕ → Data → List Data → D → Type 0) (lost : D → D → Type 0) (is_over : D → Bool) :
    Bool → List ℕ → List ℕ → D → List ℕ → D → Type 0 where
  -- the input has ended
  ends : (d : D) → Talks answers notes lost is_over false [] [] d [] d
  -- the desk is over after this frame
  stops : (input frame rest : List ℕ) (mail : Mail) (said : List Data) (d e : D) → IsFrame frame mail →
      input ≡ frame ++ rest → Handled answers notes lost mail d said e → is_over e ≡ true →
      Talks answers notes lost is_over true input rest d (sent said) e
  -- it isn't over after this frame, and the loop goes on
  goes_on : (over : Bool) (input frame mid rest bytes : List ℕ) (mail : Mail) (said : List Data) (d e f : D) →
      IsFrame frame mail → input ≡ frame ++ mid → Handled answers notes lost mail d said e → is_over e ≡ false →
      Talks answers notes lost is_over over mid rest e bytes f →
      Talks answers notes lost is_over over input rest d (sent said ++ bytes) f

-- One turn of the loop: the input has ended, or a frame was handled and what was said is written.
abbrev pub Turn : {D : Type 0} → (D → List ℕ → Data → Result Data RpcError → List Data → D → Type 0) →
    (D → List ℕ → Data → List Data → D → Type 0) → (D → D → Type 0) → Bool → List ℕ → List ℕ → D → List ℕ → List ℕ → D → Type 0
Turn {D} answers notes lost true input rest d said said' e = (input ≡ []) × (rest ≡ []) × (said' ≡ said) × (e ≡ d)
Turn {D} answers notes lost false input rest d said said' e =
    (frame : List ℕ) × (mail : Mail) × (messages : List Data) × IsFrame frame mail × (input ≡ frame ++ rest) ×
    Handled answers notes lost mail d messages e × (said' ≡ said ++ sent messages)

-- a call took such a turn, if source and sink show their bytes
abbrev pub TakesTurn : {D E : Type 0} → (Bool → List ℕ → List ℕ → D → List ℕ → List ℕ → D → Type 0) →
    Drawn → Drawn → Sunk → Sunk → D → D → Result Bool E → Type 0
TakesTurn turn source source' sink sink' d e result =
    (input said : List ℕ) → source.rest ≡ Some input → sink.contents ≡ Some said →
    IfOk result (λ over. (rest said' : List ℕ) × (source'.rest ≡ Some rest) × (sink'.contents ≡ Some said') ×
    turn over input rest d said said' e)

-- a call led such a talk, if source and sink show their bytes; what it said follows what the sink held before
abbrev pub Holds : {D E : Type 0} → (Bool → List ℕ → List ℕ → D → List ℕ → D → Type 0) →
    Drawn → Drawn → Sunk → Sunk → D → D → Result Bool E → Type 0
Holds talk source source' sink sink' d e result =
    (input said : List ℕ) → source.rest ≡ Some input → sink.contents ≡ Some said →
    IfOk result (λ over. (rest bytes : List ℕ) × (source'.rest ≡ Some rest) × (sink'.contents ≡ Some (said ++ bytes)) ×
    talk over input rest d bytes e)
