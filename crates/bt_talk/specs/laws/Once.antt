-- Which of the messages that are sent answer a request.
use Rattle.std.specs.Prelude.{◌≡◌, ◌⊎◌, List, [], ◌∷◌, filter, codes, Some}
use Rattle.serde_json.specs.Data.{Data, null}
use Rattle.serde_json.specs.Find.{get}
use Rattle.bt_rpc.specs.Messages.{is_answer, error_response}
use Rattle.bt_rpc.specs.declared.answers.RpcError.TheVariants.{InternalError}

-- exactly one of them is an answer, and it has this id, or says that there was no memory to read the request
abbrev pub IsAnsweredOnce : Data → List Data → Type 0
IsAnsweredOnce id said =
    (a : Data) × (filter is_answer said ≡ a ∷ []) ×
    ((get (codes "id") a ≡ Some id) ⊎ (a ≡ error_response null InternalError))

-- none of them is an answer, unless one says that there was no memory to read the notification
abbrev pub IsNotAnswered : List Data → Type 0
IsNotAnswered said = (filter is_answer said ≡ []) ⊎ (said ≡ error_response null InternalError ∷ [])
