-- The law of the crate, which no code needs. `specs/laws` has what it says.
use Rattle.std.proofs.Common.{refl}
use Rattle.bt_rpc.specs.laws.Laws.{AnswersHaveTheirId}

pub answers_have_their_id : AnswersHaveTheirId
answers_have_their_id = record { result = λ id answer. refl; error = λ id e. refl; none = λ method params. refl }
