-- The law of the crate, which no code needs. `specs/laws` has what it says.
use Rattle.std.specs.Prelude.{ℕ, List, Result}
use Rattle.serde_json.specs.Data.{Data}
use Rattle.bt_rpc.specs.declared.answers.RpcError.{RpcError}
use Rattle.bt_talk.specs.laws.Laws.{RequestsAreAnsweredOnce}
use Rattle.bt_talk.proofs.laws.OnceLemmas.{answered_once, not_answered}

pub requests_are_answered_once : {D : Type 0} (answers : D → List ℕ → Data → Result Data RpcError → List Data → D → Type 0)
    (notes : D → List ℕ → Data → List Data → D → Type 0) (lost : D → D → Type 0) → RequestsAreAnsweredOnce answers notes lost
requests_are_answered_once answers notes lost = record { once = answered_once answers notes lost; never = not_answered answers notes lost }
