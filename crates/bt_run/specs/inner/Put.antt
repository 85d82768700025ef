-- How the new run takes the place of the old one.
use Rattle.std.specs.Prelude.{◌≡◌, ◌++◌, ◌<◌, ◌≤◌, ℕ, false, All, List, [], ◌∷◌, drop, length, slice_set, take, bytes_eq, Ok, Option, Some}
use Rattle.std.specs.Option.{ForSome, is_some}
use Rattle.bt_style.specs.Program.{Program}
use Rattle.bt_style.specs.Reader.{style_of}
use Rattle.bt_log.specs.declared.message.Message.{Message}
use Rattle.bt_resolve.specs.declared.entry.Entry.{Entry as FoundEntry}
use Rattle.bt_run.specs.declared.answers.Answers.{Answers}
use Rattle.bt_run.specs.declared.answers.Run.{Run}
use Rattle.bt_run.specs.declared.bibliography.NewPart.{NewPart}
use Rattle.bt_run.specs.declared.course.Step.{Step}
use Rattle.bt_run.specs.declared.kept.Kept.{Kept}
use Rattle.bt_run.specs.declared.kept_resolution.KeptResolution.{KeptResolution}
use Rattle.bt_run.specs.declared.walk.NewStep.{NewStep}
use Rattle.bt_run.specs.declared.walk.Walk.{Walk}
use Rattle.bt_run.specs.Counts.{calls_at, counts_told}
use Rattle.bt_run.specs.ReadCommand.{with_blank_variables}
use Rattle.bt_run.specs.Shown.{meaning_of}
use Rattle.bt_run.specs.Work.{IsStep}
use Rattle.bt_run.specs.inner.Beside.{Difference, HasKey}
use Rattle.bt_run.specs.inner.Cases.{bbl_of, shown_of}
use Rattle.bt_run.specs.inner.ChangedEntry.{IsChangedEntry}
use Rattle.bt_run.specs.inner.Edits.{Makes, edited_question}
use Rattle.bt_run.specs.inner.Names.{HaveDistinctNames}
use Rattle.bt_run.specs.inner.Walk.{IsWalkedOut, with_steps}

-- old lengths, with those of re-made steps in the place of some
abbrev pub with_lengths : List ℕ → List NewStep → List ℕ
with_lengths ns [] = ns
with_lengths ns (o ∷ os) = with_lengths (slice_set ns o.number o.length) os

-- The kept edit is made.
pub record IsEdited (was is : KeptResolution) : Type 0 where
  pub resolution : ForSome was.edit (λ edit. ForSome edit.made (λ made. is.resolution ≡ edited_question was.resolution was.texts edit))
  pub texts : ForSome was.edit (λ edit. ForSome edit.made (λ made. Makes was.texts is.texts edit))

-- The same, if there is a resolution.
pub record GoesOver (was is : Option KeptResolution) : Type 0 where
  pub some : is_some is ≡ is_some was
  pub each : (k r : KeptResolution) → was ≡ Some k → is ≡ Some r → IsEdited k r

-- A walk over all kept steps, for the changed entry at this place.
pub record IsPutBeside (kept : Kept) (place : ℕ) (w : Walk) : Type 0 where
  pub p : Program
  pub d : FoundEntry
  pub first : Difference
  pub text : ForSome kept.text (λ t. style_of t ≡ Ok p)
  pub steps : All (IsStep p) kept.steps
  pub within : place < length kept.entries
  pub keyed : HasKey place d.key kept.entries
  pub some_key : bytes_eq [] d.key ≡ false
  pub begins : first.entry ≡ with_blank_variables p d
  pub other : ForSome kept.resolution (λ k. IsChangedEntry k place d)
  pub walked : IsWalkedOut p d.key first kept.steps w
  pub named : HaveDistinctNames (with_steps kept.steps w.steps)

-- one bibliography has this in the place of a part of the other
pub record IsPartOf (part : NewPart) (old new : List ℕ) : Type 0 where
  pub begin : part.begin ≤ part.end
  pub end : part.end ≤ length old
  pub whole : take part.begin old ++ (part.text.items ++ drop part.end old) ≡ new

-- answers with the bibliography of these steps
abbrev pub with_bbl_of : List Step → Answers → Answers
with_bbl_of ss answers = record answers { bbl = bbl_of ss }

-- what the new run shows, but for the bibliography: the log is the old one with the new counts
abbrev pub AreShown : Run → Walk → Answers → Type 0
AreShown run w answers =
    (before : List Message) (was : ℕ → ℕ) → run.answers.messages ≡ before ++ counts_told was →
    meaning_of (with_bbl_of (with_steps run.kept.steps w.steps) answers)
    ≡ shown_of (bbl_of (with_steps run.kept.steps w.steps)) (before ++ counts_told (calls_at (with_steps run.kept.steps w.steps)))
    run.answers.wanted
