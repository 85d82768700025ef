-- What a sound style promises of runs over files.
use Rattle.std.specs.Prelude.{◌≡◌, ℕ, true, List, [], flat_map, All, Some, Ok, unwrap_or}
use Rattle.bt_style.specs.Program.{Program}
use Rattle.bt_style.specs.Reader.{style_of}
use Rattle.bt_log.specs.declared.message.Message.{Message}
use Rattle.bt_resolve.specs.declared.entry.Entry.{Entry}
use Rattle.bt_job.specs.declared.files.File.{File}
use Rattle.bt_job.specs.FileNames.{text_of}
use Rattle.bt_job.specs.Citations.{citations}
use Rattle.bt_sound.specs.Excluded.{is_clean}
use Rattle.bt_sound.specs.Fits.{is_named}
use Rattle.bt_sound.specs.Sound.{Promises}
use Rattle.bt_run.specs.declared.course.Step.{Step}
use Rattle.bt_run.specs.ReadCommand.{Job, found_for}
use Rattle.bt_run.specs.Meaning.{trace}

-- the job of a run over files from a root, under a style
abbrev pub job_over : List File → List ℕ → ℕ → List ℕ → Program → Job
job_over files root min style p =
    let c = citations files root in
    record {
      files = files;
      cites = record { keys = c.keys; star = c.star };
      databases = c.databases;
      min = min;
      style = style;
      program = p;
    }

-- the type of each entry that READ gives, at whatever command it stands, has no function or one of these
abbrev pub HasTypes : List ℕ → Job → Type 0
HasTypes types job =
    (number : ℕ) → All (λ (e : Entry). is_named types e.function ≡ true) (found_for job number).entries

-- the messages of a run's steps, in order
abbrev pub step_messages : List Step → List Message
step_messages steps = flat_map (λ (s : Step). s.outcome.messages) steps

-- Over files whose style is sound and whose entries have its types, no step of the run gives an excluded message before
-- an overflow.
abbrev pub SoundOverFiles : Type 0
SoundOverFiles =
    (files : List File) (root : List ℕ) (min : ℕ) (style : List ℕ) (p : Program) (types : List ℕ) →
    (citations files root).style ≡ Some style → style_of (unwrap_or (text_of files style) []) ≡ Ok p →
    Promises p types → HasTypes types (job_over files root min style p) →
    is_clean (step_messages (trace files root min)) ≡ true
