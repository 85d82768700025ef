-- What a walk is given: the old run, and the changed entry.
use Rattle.std.specs.Prelude.{◌≡◌, ◌++◌, ◌+◌, ℕ, Bool, true, false, All, List, ◌∷◌, length, slice_get, Some}
use Rattle.bt_style.specs.declared.style.Action.{Action}
use Rattle.bt_style.specs.declared.style.Action.TheVariants.{Read}
use Rattle.bt_style.specs.declared.style.Command.{Command}
use Rattle.bt_run.specs.declared.course.Step.{Step}

abbrev pub is_read : Action → Bool
is_read Read = true
is_read _ = false

-- READ isn't among these commands.
abbrev pub AreReadless : List Command → Type 0
AreReadless commands = All (λ (c : Command). is_read c.action ≡ false) commands

-- The command of this number is READ, and no other is.
pub record IsOnlyRead (number : ℕ) (commands : List Command) : Type 0 where
  pub front : List Command
  pub line : ℕ
  pub back : List Command
  pub are : commands ≡ front ++ (record { action = Read; line = line }) ∷ back
  pub at : number ≡ length front
  pub first : AreReadless front
  pub behind : AreReadless back

-- there is a last step, and it didn't stop the run
pub record LastGoes (steps : List Step) : Type 0 where
  pub number : ℕ
  pub last : Step
  pub count : number + 1 ≡ length steps
  pub at : slice_get steps number ≡ Some last
  pub goes : last.outcome.stop ≡ false
