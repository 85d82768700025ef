-- What the laws of the crate say. `proofs/laws/Laws.antt` proves them.
use Rattle.std.specs.Prelude.{◌≡◌, ℕ, List, Result}
use Rattle.serde_json.specs.Data.{Data}
use Rattle.bt_rpc.specs.declared.answers.RpcError.{RpcError}
use Rattle.bt_rpc.specs.Messages.{kind_of, request, notified}
use Rattle.bt_talk.specs.Handled.{text, IsJson, Handled}
use Rattle.bt_talk.specs.laws.Once.{IsAnsweredOnce, IsNotAnswered}

-- A request gets exactly one answer, which has its id or says that there was no memory to read the request. A
-- notification gets none, unless there was no memory to read it.
pub record RequestsAreAnsweredOnce {D : Type 0}
    (answers : D → List ℕ → Data → Result Data RpcError → List Data → D → Type 0)
    (notes : D → List ℕ → Data → List Data → D → Type 0) (lost : D → D → Type 0) : Type 0 where
  pub once : (body method : List ℕ) (m id : Data) (said : List Data) (d e : D) → IsJson body m →
      kind_of m ≡ request id method → Handled answers notes lost (text body) d said e → IsAnsweredOnce id said
  pub never : (body method : List ℕ) (m : Data) (said : List Data) (d e : D) → IsJson body m →
      kind_of m ≡ notified method → Handled answers notes lost (text body) d said e → IsNotAnswered said
