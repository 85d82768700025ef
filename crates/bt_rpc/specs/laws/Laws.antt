-- What the laws of the crate say. `proofs/laws/Laws.antt` proves them.
use Rattle.std.specs.Prelude.{◌≡◌, codes, Some, None, List, ℕ}
use Rattle.serde_json.specs.Data.{Data}
use Rattle.serde_json.specs.Find.{get}
use Rattle.bt_rpc.specs.declared.answers.RpcError.{RpcError}
use Rattle.bt_rpc.specs.Messages.{response, error_response, notification}

-- An answer has the id of its request, and a notification has none.
pub record AnswersHaveTheirId : Type 0 where
  pub result : (id answer : Data) → get (codes "id") (response id answer) ≡ Some id
  pub error : (id : Data) (e : RpcError) → get (codes "id") (error_response id e) ≡ Some id
  pub none : (method : List ℕ) (params : Data) → get (codes "id") (notification method params) ≡ None
