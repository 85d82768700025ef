-- How one frame of the input is handled.
use Rattle.std.specs.Prelude.{◌≡◌, ◌<◌, ◌≤◌, ℕ, false, List, [], ◌∷◌, ◌++◌, ◌⊎◌, Some, None, Result, Ok, Err, IsUtf8, length}
use Rattle.std.specs.List.{AllByRecursion}
use Rattle.serde_json.specs.Data.{Data, null}
use Rattle.serde_json.specs.Read.{read}
use Rattle.serde_json.specs.Written.{has_float}
use Rattle.bt_frames.specs.Headers.{IsHeader}
use Rattle.bt_frames.specs.Frames.{body_bytes}
use Rattle.bt_rpc.specs.Messages.{Kind, request, notified, reply, malformed, kind_of, is_answer, response, error_response}
use Rattle.bt_rpc.specs.declared.answers.RpcError.{RpcError}
use Rattle.bt_rpc.specs.declared.answers.RpcError.TheVariants.{ParseError, InvalidRequest, InternalError}

-- what a frame holds
pub data Mail : Type 0 where
  -- a body
  text : List ℕ → Mail
  -- a body that is too large
  too_large : Mail
  -- a body for which memory ran out
  unread : Mail
  -- a header that doesn't say how long its body is
  no_length : Mail

-- these bytes are a frame that holds this mail
abbrev pub IsFrame : List ℕ → Mail → Type 0
IsFrame bytes (text body) =
    (header : List ℕ) × IsHeader header (Some (length body)) × (length body ≤ body_bytes) × (bytes ≡ header ++ body)
IsFrame bytes too_large =
    (header : List ℕ) × (body : List ℕ) × IsHeader header (Some (length body)) × (body_bytes < length body) ×
    (bytes ≡ header ++ body)
IsFrame bytes unread =
    (header : List ℕ) × (body : List ℕ) × IsHeader header (Some (length body)) × (length body ≤ body_bytes) ×
    (bytes ≡ header ++ body)
IsFrame bytes no_length = IsHeader bytes None

-- a body is this value of JSON
abbrev pub IsJson : List ℕ → Data → Type 0
IsJson body m = IsUtf8 body × (read body ≡ Some m)

-- a body is no JSON
abbrev pub IsBroken : List ℕ → Type 0
IsBroken body = IsUtf8 body → read body ≡ None

-- a value whose text is determined
abbrev pub HasNoFloat : Data → Type 0
HasNoFloat d = has_float d ≡ false

-- what the server says beside its answers: notifications, and its own requests
abbrev pub IsNote : Data → Type 0
IsNote d = (is_answer d ≡ false) × HasNoFloat d

-- the answer to a request with this id and outcome
abbrev pub answer_to : Data → Result Data RpcError → Data
answer_to id (Ok d) = response id d
answer_to id (Err error) = error_response id error

-- What is said to a message. `answers`, `notes` and `lost` are the desk's: how it may answer a request, what it may say
-- to a notification, and how it takes that a message is lost. If memory runs out for a request, nothing has changed.
abbrev pub CarriedOut : {D : Type 0} → (D → List ℕ → Data → Result Data RpcError → List Data → D → Type 0) →
    (D → List ℕ → Data → List Data → D → Type 0) → (D → D → Type 0) → Kind → Data → D → List Data → D → Type 0
CarriedOut {D} answers notes lost (request id method) m d said e =
    ((outcome : Result Data RpcError) × (told : List Data) × answers d method m outcome told e ×
    AllByRecursion IsNote told × (said ≡ told ++ answer_to id outcome ∷ [])) ⊎
    ((said ≡ error_response id InternalError ∷ []) × (e ≡ d))
CarriedOut {D} answers notes lost (notified method) m d said e = notes d method m said e × AllByRecursion IsNote said
CarriedOut {D} answers notes lost reply m d said e = (said ≡ []) × (e ≡ d)
CarriedOut {D} answers notes lost (malformed id) m d said e = (said ≡ error_response id InvalidRequest ∷ []) × lost d e

-- What is said to a frame. A message is carried out; anything else gets an error, and the desk learns that it is lost.
abbrev pub Handled : {D : Type 0} → (D → List ℕ → Data → Result Data RpcError → List Data → D → Type 0) →
    (D → List ℕ → Data → List Data → D → Type 0) → (D → D → Type 0) → Mail → D → List Data → D → Type 0
Handled {D} answers notes lost (text body) d said e =
    ((m : Data) × IsJson body m × CarriedOut answers notes lost (kind_of m) m d said e) ⊎
    (IsBroken body × (said ≡ error_response null ParseError ∷ []) × lost d e) ⊎
    ((said ≡ error_response null InternalError ∷ []) × lost d e)
Handled {D} answers notes lost too_large d said e = (said ≡ error_response null InternalError ∷ []) × lost d e
Handled {D} answers notes lost unread d said e = (said ≡ error_response null InternalError ∷ []) × lost d e
Handled {D} answers notes lost no_length d said e = (said ≡ error_response null ParseError ∷ []) × lost d e
