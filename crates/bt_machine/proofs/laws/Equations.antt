-- The evaluation meets its equations.
use Rattle.bt_style.specs.Program.{Program}
use Rattle.bt_machine.specs.Eval.{eval}
use Rattle.bt_machine.specs.laws.Eval.{IsEvaluation}
use Rattle.bt_machine.proofs.Equations.{eval-end, eval-no_tick, eval-then, looped-turn}

-- all of them
pub is_evaluation : (p : Program) → IsEvaluation p (eval p)
is_evaluation p =
    record { no_element = eval-end p; no_tick = eval-no_tick p; an_element = eval-then p; a_loop = looped-turn p }
