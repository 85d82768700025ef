use Rattle.std.proofs.Common.{ℕ}
use Rattle.std.proofs.lemmas.List.{get_or-replicate}
use Rattle.bt_run.proofs.written_steps.WrittenSteps.none.Goals as goal

pub returns-clause-calls : goal.returns-clause-calls
returns-clause-calls c = λ place lt. get_or-replicate {A = ℕ} 37 place 0 0 lt
