-- The steps of the new run, as far as they were made.
use Rattle.std.specs.Prelude.{take, ◌≡◌, ◌++◌, ◌+◌, ◌<◌, ◌≤◌, ℕ, Bool, true, false, List, [], ◌∷◌, length, slice_get, slice_set, bytes_eq, Some, if◌then◌else◌}
use Rattle.bt_style.specs.declared.style.Action.TheVariants.{Sort}
use Rattle.bt_style.specs.declared.style.Command.{Command}
use Rattle.bt_style.specs.Program.{Program, program_of}
use Rattle.bt_log.specs.Log.{lines_bytes}
use Rattle.bt_machine.specs.declared.input.Input.{Input}
use Rattle.bt_machine.specs.declared.outcome.Outcome.{Outcome}
use Rattle.bt_resolve.specs.declared.entry.Entry.{Entry as FoundEntry}
use Rattle.bt_resolve.specs.inner.Kept.{resolved_for}
use Rattle.bt_run.specs.declared.course.Step.{Step}
use Rattle.bt_run.specs.declared.kept.Kept.{Kept}
use Rattle.bt_run.specs.declared.kept_resolution.KeptResolution.{KeptResolution}
use Rattle.bt_run.specs.declared.walk_context.WalkContext.{WalkContext}
use Rattle.bt_run.specs.declared.walk.NewStep.{NewStep}
use Rattle.bt_run.specs.declared.walk.Walk.{Walk}
use Rattle.bt_run.specs.ReadCommand.{with_blank_variables}
use Rattle.bt_run.specs.Work.{total_cost, work_under}
use Rattle.bt_run.specs.inner.Beside.{AreBeside, AreUpTo, Difference, HasKey, IsCountedUpTo, IsGivenAlike, first_of, is_for}
use Rattle.bt_run.specs.inner.ChangedEntry.{IsChangedEntry}
use Rattle.bt_run.specs.inner.SortOrder.{HasItsPlace, HasNoSort, IsSortAndIterate}
use Rattle.bt_run.specs.inner.WalkContext.{IsOnlyRead, LastGoes}
use Rattle.bt_run.specs.inner.Calls.{AreCalls, AreExchanged}
use Rattle.bt_run.specs.inner.Course.{with_variables}

-- old steps, with re-made ones in the place of some
abbrev pub with_steps : List Step → List NewStep → List Step
with_steps ss [] = ss
with_steps ss (o ∷ os) = with_steps (slice_set ss o.number o.step) os

-- The numbers rise, from `from` on and below `end`. Each length is that of what the step writes.
abbrev pub AreNumbered : ℕ → ℕ → List NewStep → Type 0
AreNumbered from end [] = from ≤ end
AreNumbered from end (o ∷ os) =
    (from ≤ o.number) × (o.length ≡ length (lines_bytes o.step.outcome.lines)) × AreNumbered (o.number + 1) end os

-- both give the next step the same
pub record GiveAlike (left old : Outcome) : Type 0 where
  pub globals : left.globals ≡ old.globals
  pub held : left.held ≡ old.held

-- the input of a re-made step, from the old step's
abbrev pub given_to : Bool → Walk → Input → Input
given_to own w i = record i {
  entry = if own then Some w.entry else i.entry;
  globals = if w.in_step then i.globals else w.globals;
  held = if w.in_step then i.held else w.held;
}

-- where the runs differ before the step of a number
pub record IsAt (ss : List Step) (k : ℕ) (w : Walk) (now : Difference) : Type 0 where
  pub entry : now.entry ≡ w.entry
  pub alike : w.in_step ≡ true → (s : Step) → slice_get ss k ≡ Some s → IsGivenAlike now s
  pub globals : w.in_step ≡ false → now.globals ≡ w.globals
  pub held : w.in_step ≡ false → now.held ≡ w.held

-- After `k` steps: the new steps so far are right and counted, with their calls, and no later one was replaced.
pub record IsWalked (p : Program) (key : List ℕ) (first : Difference) (ss : List Step) (k : ℕ) (w : Walk) : Type 0 where
  pub now : Difference
  pub at : IsAt ss k w now
  pub upto : AreUpTo p key first ss (with_steps ss w.steps) k now
  pub counted : IsCountedUpTo p ss (with_steps ss w.steps) k w.reuse
  pub called : AreCalls (with_steps ss w.steps) w.calls
  pub numbered : AreNumbered 0 k w.steps

-- The same after all steps.
pub record IsWalkedOut (p : Program) (key : List ℕ) (first : Difference) (ss : List Step) (w : Walk) : Type 0 where
  pub count : length (with_steps ss w.steps) ≡ length ss
  pub last : Difference
  pub entry : last.entry ≡ w.entry
  pub beside : AreBeside p key first ss (with_steps ss w.steps) last
  pub ran : w.reuse.ran ≡ length (work_under p ss (with_steps ss w.steps))
  pub ticks : w.reuse.meter ≡ total_cost (work_under p ss (with_steps ss w.steps))
  pub fewer : w.reuse.ran ≤ length ss
  pub calls : AreCalls (with_steps ss w.steps) w.calls
  pub numbered : AreNumbered 0 (length ss) w.steps

-- A walk with one more step, of this number, and the same last command.
pub record IsPutAt (k : ℕ) (w v : Walk) : Type 0 where
  pub other : NewStep
  pub number : other.number ≡ k
  pub steps : v.steps ≡ w.steps ++ other ∷ []
  pub last : v.last_command ≡ w.last_command

-- a re-made step was noted, with what it left
pub record IsNoted (own : Bool) (k : ℕ) (s t : Step) (w v : Walk) : Type 0 where
  pub long : ℕ
  pub lines : long ≡ length (lines_bytes t.outcome.lines)
  pub steps : v.steps ≡ w.steps ++ (record { number = k; step = t; length = long }) ∷ []
  pub entry : v.entry ≡ (if own then with_variables t.outcome.variables w.entry else w.entry)
  pub alike : v.in_step ≡ true → GiveAlike t.outcome s.outcome
  pub globals : v.in_step ≡ false → v.globals ≡ t.outcome.globals
  pub held : v.in_step ≡ false → v.held ≡ t.outcome.held
  pub calls : AreExchanged w.calls v.calls s.outcome.calls t.outcome.calls
  pub reuse : v.reuse ≡ w.reuse
  pub last : v.last_command ≡ w.last_command

-- a re-made step, from what the new run has now
pub record IsAgain (own : Bool) (w : Walk) (s t : Step) : Type 0 where
  pub command : t.command ≡ s.command
  pub input : t.input ≡ given_to own w s.input

abbrev pub IsWalkedIn : WalkContext → ℕ → Walk → Type 0
IsWalkedIn context k w =
    IsWalked (program_of context.style.now) context.key.now (first_of (program_of context.style.now) context.first.now) context.earlier.now.steps k w

-- The order

-- The SORT of a number leaves the old order, by the next step for the changed entry.
pub record HasOrder (p : Program) (key : List ℕ) (first : Difference) (ss us : List Step) (k number : ℕ) : Type 0 where
  pub i : ℕ
  pub s : Step
  pub now : Difference
  pub early : i < k
  pub at : slice_get ss i ≡ Some s
  pub own : is_for key s ≡ true
  pub beside : AreBeside p key first (take i ss) (take i us) now
  pub above : (x : ℕ) (t : Step) → x < i → slice_get ss x ≡ Some t → is_for key t ≡ true → t.command < number
  pub two : IsSortAndIterate p.commands number s.command
  pub keeps : HasItsPlace ss i s now.entry

-- Each SORT after READ and before `last_command` leaves the old order, and no step for the entry is of a later command.
pub record AreOrdered (p : Program) (key : List ℕ) (first : Difference) (ss : List Step) (read k : ℕ) (w : Walk) : Type 0 where
  pub above : (x : ℕ) (t : Step) → x < k → slice_get ss x ≡ Some t → is_for key t ≡ true → t.command ≤ w.last_command
  pub each : (n : ℕ) (c : Command) → read < n → n < w.last_command → slice_get p.commands n ≡ Some c → c.action ≡ Sort →
      HasOrder p key first ss (with_steps ss w.steps) k n

abbrev pub AreOrderedIn : WalkContext → ℕ → Walk → Type 0
AreOrderedIn context k w =
    AreOrdered (program_of context.style.now) context.key.now (first_of (program_of context.style.now) context.first.now) context.earlier.now.steps context.read k w

-- A walk has gone past all steps.
pub record IsWalkThrough (p : Program) (key : List ℕ) (first : Difference) (ss : List Step) (read : ℕ) (w : Walk) : Type 0 where
  pub walked : IsWalked p key first ss (length ss) w
  pub ordered : AreOrdered p key first ss read (length ss) w
  pub sorted : HasNoSort p.commands w.last_command (length p.commands)
  pub goes : LastGoes ss

-- Such a walk over the kept steps, for the entry that the kept edit changes.
pub record IsWalkFrom (p : Program) (kept : Kept) (place : ℕ) (w : Walk) : Type 0 where
  pub k : KeptResolution
  pub d : FoundEntry
  pub read : ℕ
  pub is : kept.resolution ≡ Some k
  pub other : IsChangedEntry k place d
  pub only : IsOnlyRead read p.commands
  pub within : place < length kept.entries
  pub counted : length (resolved_for k.resolution).entries ≡ length kept.entries
  pub keyed : HasKey place d.key kept.entries
  pub some_key : bytes_eq [] d.key ≡ false
  pub through : IsWalkThrough p d.key (first_of p (with_blank_variables p d)) kept.steps read w

abbrev pub IsWalkThroughIn : WalkContext → Walk → Type 0
IsWalkThroughIn context w =
    IsWalkThrough (program_of context.style.now) context.key.now (first_of (program_of context.style.now) context.first.now) context.earlier.now.steps context.read w
