-- Steps one after another: each is given the globals and the held line that the one before it left.
use Rattle.std.specs.Prelude.{◌≡◌, ◌+◌, ℕ, List, Option, Some, length, slice_get}
use Rattle.bt_actions.specs.World.{World, entry_in}
use Rattle.bt_machine.specs.declared.input.Input.{Input}
use Rattle.bt_run.specs.declared.course.Step.{Step}

-- an input has the entry at a place of a world, or none, and its preamble
pub record IsEntered (w : World) (x : Option ℕ) (i : Input) : Type 0 where
  pub entry : i.entry ≡ entry_in w.entries x
  pub preamble : i.preamble ≡ w.preamble

-- an input has the globals and the held line of a world
pub record IsGiven (w : World) (i : Input) : Type 0 where
  pub globals : i.globals ≡ w.globals
  pub held : i.held ≡ w.held

-- the step at a place, if there is one, was given those of a world
abbrev pub IsGivenAt : List Step → ℕ → World → Type 0
IsGivenAt steps n w = (s : Step) → slice_get steps n ≡ Some s → IsGiven w s.input

-- a step left the globals and the held line of a world
pub record IsLeft (w : World) (s : Step) : Type 0 where
  pub globals : s.outcome.globals ≡ w.globals
  pub held : s.outcome.held ≡ w.held

-- the last step, if there is one, left those of a world
abbrev pub AreLeft : List Step → World → Type 0
AreLeft steps w = (n : ℕ) (s : Step) → slice_get steps n ≡ Some s → n + 1 ≡ length steps → IsLeft w s

-- a step was given what another left
pub record IsAfter (s t : Step) : Type 0 where
  pub globals : t.input.globals ≡ s.outcome.globals
  pub held : t.input.held ≡ s.outcome.held

-- each step was given what the one before it left
abbrev pub AreInTurn : List Step → Type 0
AreInTurn steps = (n : ℕ) (s t : Step) → slice_get steps n ≡ Some s → slice_get steps (n + 1) ≡ Some t → IsAfter s t

-- a step is the earlier one at a place, and the next one is to be tried next
pub record IsSharedFrom (earlier : List Step) (s : Step) (from next : ℕ) : Type 0 where
  pub at : slice_get earlier from ≡ Some s
  pub on : next ≡ from + 1
