-- An edit of which the style sees nothing.
use Rattle.std.specs.Prelude.{◌≡◌, ℕ, false, IsTrue, bytes_eq, map, List, Some, Ok, slice_get}
use Rattle.std.specs.Option.{ForSome}
use Rattle.bt_style.specs.declared.style.Action.TheVariants.{Read}
use Rattle.bt_style.specs.Program.{Program}
use Rattle.bt_style.specs.Reader.{style_of}
use Rattle.bt_job.specs.declared.files.File.{File}
use Rattle.bt_job.specs.Citations.{citations}
use Rattle.bt_resolve.specs.declared.kept.ResolvedEdit.{ResolvedEdit}
use Rattle.bt_resolve.specs.declared.seen_edit.SeenEdit.TheVariants.{Same}
use Rattle.bt_resolve.specs.inner.Kept.{resolved_for}
use Rattle.bt_run.specs.declared.answers.Run.{Run}
use Rattle.bt_run.specs.declared.database_edit.DatabaseEdit.{DatabaseEdit}
use Rattle.bt_run.specs.declared.kept.Kept.{Kept}
use Rattle.bt_run.specs.declared.kept_resolution.KeptResolution.{KeptResolution}
use Rattle.bt_run.specs.Kept.{style_text}
use Rattle.bt_run.specs.Meaning.{meaning, trace}
use Rattle.bt_run.specs.ReadCommand.{Job, found_for}
use Rattle.bt_run.specs.Shown.{meaning_of}
use Rattle.bt_run.specs.inner.Cases.{text_in}

-- the edit that is kept changes nothing that is seen
pub record IsUnseen (k : KeptResolution) : Type 0 where
  pub edit : DatabaseEdit
  pub made : ResolvedEdit
  pub is_edit : k.edit ≡ Some edit
  pub is_made : edit.made ≡ Some made
  pub seen : made.seen ≡ Same
  pub messages : made.messages ≡ (resolved_for k.resolution).messages

-- Each READ of a job finds the same in other files.
abbrev pub FindTheSame : List File → Job → Type 0
FindTheSame files job =
    (k line : ℕ) → slice_get job.program.commands k ≡ Some (record { action = Read; line = line }) →
    found_for (record job { files = files }) k ≡ found_for job k

-- Files have the run of others, under a style that can be read.
pub record IsSameRun (was files : List File) (root : List ℕ) (min : ℕ) : Type 0 where
  pub shown : meaning files root min ≡ meaning was root min
  pub steps : trace files root min ≡ trace was root min
  pub text : style_text files root ≡ style_text was root
  pub own : List ℕ
  pub program : Program
  pub named : style_text files root ≡ Some own
  pub read : style_of own ≡ Ok program

-- a run is that of these files
pub record IsRunOf (files : List File) (root : List ℕ) (min : ℕ) (run : Run) : Type 0 where
  pub shown : meaning_of run.answers ≡ meaning files root min
  pub text : run.kept.text ≡ style_text files root
  pub steps : run.kept.steps ≡ trace files root min

-- ---- the texts of databases

-- What READ found was found in the databases of these files.
abbrev pub AreFilesOf : List File → List ℕ → KeptResolution → Type 0
AreFilesOf files root k = k.texts ≡ map (text_in files) (citations files root).databases

-- So it was, if what is kept of a run says so.
abbrev pub AreTextsOf : List File → List ℕ → Kept → Type 0
AreTextsOf files root kept = IsTrue kept.is_present → ForSome kept.resolution (AreFilesOf files root)

-- Files differ from others in the text of this name alone.
abbrev pub AreOtherwise : List ℕ → List File → List File → Type 0
AreOtherwise name was files = (n : List ℕ) → bytes_eq name n ≡ false → text_in files n ≡ text_in was n
