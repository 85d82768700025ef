-- A change of one file, and what READ asks before and after it.
use Rattle.std.specs.Prelude.{◌≡◌, ◌==◌, ◌<◌, ℕ, IsTrue, List, [], Some, Ok, bytes_eq, length, slice_get, slice_index_or}
use Rattle.std.specs.Option.{ForSome}
use Rattle.bt_style.specs.declared.style.Action.TheVariants.{Read}
use Rattle.bt_style.specs.Program.{Program}
use Rattle.bt_style.specs.Reader.{style_of}
use Rattle.bt_job.specs.declared.citations.Citations.{Citations}
use Rattle.bt_job.specs.declared.files.File.{File}
use Rattle.bt_job.specs.Citations.{citations}
use Rattle.bt_resolve.specs.declared.declared.Declared.{Declared}
use Rattle.bt_resolve.specs.declared.question.Question.{Question}
use Rattle.bt_run.specs.declared.answers.Run.{Run}
use Rattle.bt_run.specs.declared.change.Change.{Change}
use Rattle.bt_run.specs.declared.kept.Kept.{Kept}
use Rattle.bt_run.specs.declared.kept_resolution.KeptResolution.{KeptResolution}
use Rattle.bt_run.specs.ReadCommand.{declared_before}
use Rattle.bt_run.specs.inner.Cases.{text_in}
use Rattle.bt_run.specs.inner.Unseen.{AreFilesOf, IsRunOf}

-- READ, if it is the command of a number, declares this.
abbrev pub DeclaresAt : Program → Declared → ℕ → Type 0
DeclaresAt p declared k =
    (line : ℕ) → slice_get p.commands k ≡ Some (record { action = Read; line = line }) → declared_before k p ≡ declared

-- Each READ of a style asks this, but perhaps of other databases.
pub record AreAsked (q : Question) (c : Citations) (least : ℕ) (p : Program) : Type 0 where
  pub cites : q.cites ≡ record { keys = c.keys; star = c.star }
  pub min : q.min ≡ least
  pub declared : (k : ℕ) → DeclaresAt p q.declared k

-- the style of a name in some files and in others
pub record IsStyledBy (was files : List File) (name : List ℕ) (p : Program) : Type 0 where
  pub same : text_in files name ≡ text_in was name
  pub read : style_of (text_in files name) ≡ Ok p

-- A name stands at this number, and nowhere else.
abbrev pub IsOnlyAt : List ℕ → ℕ → List (List ℕ) → Type 0
IsOnlyAt name number names =
    (k : ℕ) → k < length names → bytes_eq name (slice_index_or names k []) ≡ (k == number)

-- Each READ of the old and of the new files asks what is kept, and the edit is what changes of the databases.
pub record IsAskedOf (h : Change) (k : KeptResolution) (p : Program) : Type 0 where
  pub same : citations h.files.now h.root.now ≡ citations h.was.now h.root.now
  pub style : List ℕ
  pub named : (citations h.was.now h.root.now).style ≡ Some style
  pub styled : IsStyledBy h.was.now h.files.now style p
  pub asked : AreAsked k.resolution (citations h.was.now h.root.now) h.min p
  pub edited : ForSome k.edit (λ edit.
      (text_in h.files.now h.name.now ≡ edit.text) × IsOnlyAt h.name.now edit.number (citations h.was.now h.root.now).databases)

-- READ found it in the old files, in the run that is kept.
pub record IsAskedOfKept (h : Change) (kept : Kept) (p : Program) : Type 0 where
  pub k : KeptResolution
  pub is : kept.resolution ≡ Some k
  pub own : IsTrue kept.is_own
  pub asked : IsAskedOf h k p
  pub texts : AreFilesOf h.was.now h.root.now k

-- That run is the one of the old files.
pub record IsAskedOfRun (h : Change) (run : Run) (p : Program) : Type 0 where
  pub is : IsRunOf h.was.now h.root.now h.min run
  pub asked : IsAskedOfKept h run.kept p
