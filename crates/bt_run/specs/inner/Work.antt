-- What a run over earlier steps knows and keeps to.
use Rattle.std.specs.Prelude.{◌≡◌, ◌↔◌, ◌<◌, ◌≤◌, ◌+◌, ◌*◌, ℕ, List, [], ◌∷◌, Some, None, IsTrue, false, All, Contains, length, slice_get}
use Rattle.std.specs.Option.{ForSome}
use Rattle.bt_style.specs.declared.style.Target.{Target}
use Rattle.bt_style.specs.Program.{Program}
use Rattle.bt_actions.specs.declared.entry.Entry.{Entry}
use Rattle.bt_actions.specs.World.{World}
use Rattle.bt_machine.specs.declared.input.Input.{Input}
use Rattle.bt_machine.specs.declared.outcome.Outcome.{Outcome}
use Rattle.bt_style.specs.Reach.{Reaches, is_among}
use Rattle.bt_machine.specs.AgreementLaws.{Agree}
use Rattle.bt_run.specs.declared.course.Step.{Step}
use Rattle.bt_run.specs.declared.kept_steps.KeptSteps.{KeptSteps}
use Rattle.bt_run.specs.declared.kept.Kept.{Kept}
use Rattle.bt_run.specs.declared.reuse.KnownReach.{KnownReach}
use Rattle.bt_run.specs.declared.reuse.Reuse.{Reuse}
use Rattle.bt_run.specs.declared.reused_step.Sought.{Sought}
use Rattle.bt_run.specs.declared.reused_step.Marked.{Marked}
use Rattle.bt_run.specs.declared.index.StepName.{StepName}
use Rattle.bt_run.specs.inner.Index.{step_name}
use Rattle.bt_run.specs.inner.Names.{IsIndex}
use Rattle.bt_run.specs.inner.Earlier.{AreSame}
use Rattle.bt_run.specs.inner.Marks.{AreMarked, IsMark}
use Rattle.bt_run.specs.inner.Turn.{AreInTurn, AreLeft, IsGivenAt}
use Rattle.bt_run.specs.inner.Found.{AreFoundBy}
use Rattle.bt_run.specs.inner.Calls.{AreCalls, AreCallsFrom}
use Rattle.bt_run.specs.Work.{IsStep, work_under, total_cost}
use Rattle.bt_run.specs.Course.{step_kept}

-- A run over earlier steps

-- an earlier step of this command, whose input agrees with this one in some names
pub record IsLike (command : ℕ) (names : List Target) (i : Input) (s : Step) : Type 0 where
  pub of_command : s.command ≡ command
  pub agree : Agree (is_among names) s.input i

-- an earlier step and its mark are those at a place
pub record IsMarkedAt (earlier : Kept) (k : ℕ) (m : Marked) : Type 0 where
  pub at : slice_get earlier.steps k ≡ Some m.step.now
  pub mark : IsMark earlier.entries m.step.now m.mark

-- the name of the step that is looked for
abbrev pub name_of : Sought → StepName
name_of sought = step_name sought.command sought.input.now

-- The step at a place, if there is one, isn't like it.
abbrev pub IsUnlikeAt : Sought → List Step → ℕ → Type 0
IsUnlikeAt sought steps k =
    (s : Step) → slice_get steps k ≡ Some s → IsLike sought.command sought.reach.now.targets sought.input.now s → ⊥

-- No earlier step is like it.
abbrev pub AreUnlike : Sought → List Step → Type 0
AreUnlike sought steps = All (λ s. IsLike sought.command sought.reach.now.targets sought.input.now s → ⊥) steps

-- This earlier step is like it.
abbrev pub IsMet : Sought → List Step → Step → Type 0
IsMet sought steps s =
    Contains steps s × IsLike sought.command sought.reach.now.targets sought.input.now s

-- what is known to be reached from a name
abbrev pub IsKnown : Program → KnownReach → Type 0
IsKnown p k = (t : Target) → Contains k.reach.targets t ↔ Reaches p k.function k.target t

-- the step of an input, as it is kept
abbrev pub step_now : ℕ → Input → Outcome → ℕ → Step
step_now command i o cost = step_kept command i (record { outcome = o; cost = cost })

-- a step counts as its part of the work
pub record IsCounted (p : Program) (earlier : List Step) (t : Step) (before after : Reuse) : Type 0 where
  pub ran : after.ran ≡ before.ran + length (work_under p earlier (t ∷ []))
  pub ticks : after.meter ≡ before.meter + total_cost (work_under p earlier (t ∷ []))

-- The step that a run over earlier ones comes to: it is one of the style and counts as its part of the work, its ticks
-- are a million at most, and what is known of the style and of the earlier steps stays so.
pub record IsNext (p : Program) (earlier : List Step) (t : Step) (before after : Reuse) : Type 0 where
  pub step : IsStep p t
  pub counted : IsCounted p earlier t before after
  pub within : after.meter ≤ before.meter + 1000000
  pub known : All (IsKnown p) after.known
  pub indexed : ForSome after.lookup.index (IsIndex earlier)

-- What was carried out is the work of steps after earlier ones, and costs at most a million ticks for each; they are
-- steps of the style; what was worked out of the style is so; the index, if there is one, is that of the earlier steps.
pub record IsWork (p : Program) (earlier steps : List Step) (reuse : Reuse) : Type 0 where
  pub ran : reuse.ran ≡ length (work_under p earlier steps)
  pub ticks : reuse.meter ≡ total_cost (work_under p earlier steps)
  pub fewer : reuse.ran ≤ length steps
  pub bounded : reuse.meter ≤ 1000000 * length steps
  pub true_steps : All (IsStep p) steps
  pub known : All (IsKnown p) reuse.known
  pub indexed : ForSome reuse.lookup.index (IsIndex earlier)

-- What the steps of a run over earlier ones keep to, in the world after them: what is known of entries, globals and the
-- held line without comparing them is so; and so are the marks and the calls; the entries are those that READ found.
pub record IsConsistent (p : Program) (earlier : Kept) (w : World) (s : KeptSteps) : Type 0 where
  pub work : IsWork p earlier.steps s.steps s.reuse
  pub marked : AreMarked w.entries s.steps s.marks
  pub same : AreSame earlier.entries w.entries s.same
  pub in_turn : AreInTurn s.steps
  pub left : AreLeft s.steps w
  pub given : IsTrue s.in_step → IsGivenAt earlier.steps s.reuse.next w
  pub called : ForSome s.calls (AreCallsFrom earlier.steps s.reuse.next s.steps)
  pub found : AreFoundBy s.is_own s.resolution w.entries
  pub found_before : AreFoundBy s.is_earlier s.resolution earlier.entries

-- what the next run may know of the steps of this one, whose entries these are
pub record AreKept (entries : List Entry) (s : KeptSteps) : Type 0 where
  pub marked : AreMarked entries s.steps s.marks
  pub in_turn : AreInTurn s.steps
  pub called : ForSome s.calls (AreCalls s.steps)
  pub found : AreFoundBy s.is_own s.resolution entries

-- No step was taken, and nothing is known.
abbrev pub IsBegun : KeptSteps → Type 0
IsBegun s =
    (s.steps ≡ []) × (s.marks ≡ []) × (s.same ≡ []) × (s.reuse.ran ≡ 0) × (s.reuse.meter ≡ 0) × (s.reuse.known ≡ [])
    × (s.reuse.lookup.index ≡ None) × (s.in_step ≡ false) × (s.reuse.next ≡ 0) × (s.calls ≡ None)
    × (s.is_own ≡ false)
