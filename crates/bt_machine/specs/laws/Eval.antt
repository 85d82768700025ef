-- What a body does, in equations that have no bound on the depth of calls and the turns of loops.
use Rattle.std.specs.Prelude.{◌≡◌, ℕ, suc, List}
use Rattle.bt_style.specs.declared.builtin.Builtin.TheVariants.{While}
use Rattle.bt_style.specs.Tree.{Element, Body, End, Then}
use Rattle.bt_style.specs.Program.{Program}
use Rattle.bt_actions.specs.declared.complaint.Complaint.TheVariants.{TicksPassed}
use Rattle.bt_actions.specs.Item.{Code}
use Rattle.bt_actions.specs.World.{World, say}
use Rattle.bt_actions.specs.Arguments.{as_number, taken}
use Rattle.bt_machine.specs.Eval.{Counts, Done, Runner, Stopped, act, calls_after, code_body, looped, then_go, turn}

-- the evaluation's equations, with no bound on how deep calls stand and on how often loops turn
pub record IsEvaluation (p : Program) (run : Runner) : Type 0 where
  pub no_element : (w : World) (k : Counts) → run End w k ≡ Done w k
  pub no_tick : (e : Element) (rest : Body) (w : World) (calls : List ℕ) →
      run (Then e rest) w (0, calls) ≡ Stopped (say TicksPassed w) (0, calls)
  pub an_element : (e : Element) (rest : Body) (w : World) (k : ℕ) (calls : List ℕ) →
      run (Then e rest) w (suc k, calls) ≡ then_go (act p run e w (k, calls_after e calls)) (run rest)
  pub a_loop : (test body : Code) (w : World) (k : Counts) →
      looped run test body w k ≡ then_go (run (code_body test) w k)
      (λ w k. turn (taken While as_number w) k (run (code_body body)) (looped run test body))
