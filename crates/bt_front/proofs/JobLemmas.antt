-- What a job tells, under the author's names.
use Rattle.std.proofs.Common.{◌≡◌, ◌∙◌, ℕ, List, map, ap, refl}
use Rattle.bt_job.specs.declared.files.File.{File}
use Rattle.bt_log.specs.declared.message.Message.{Message}
use Rattle.bt_log.specs.Log.{log_bytes, terse_bytes}
use Rattle.bt_job.specs.declared.citations.Citations.{Citations}
use Rattle.bt_job.specs.Citations.{citations}
use Rattle.bt_run.specs.declared.course.Step.{Step}
use Rattle.bt_run.specs.Meaning.{Meaning, meaning, trace}
use Rattle.bt_files.specs.Messages.{name_back, put_back}
use Rattle.bt_front.specs.Job.{file_under, root_under, table_of, told_under, meaning_under, job_meaning, job_trace}

-- What the code tells

pub told : (table : List (List ℕ)) (m : Meaning) (messages : List Message) (blg terse : List ℕ) (wanted : List (List ℕ))
    → messages ≡ map (put_back table) m.messages → blg ≡ log_bytes messages → terse ≡ terse_bytes messages
    → wanted ≡ map (name_back table) m.wanted
    → record m { blg = blg; terse = terse; messages = messages; wanted = wanted } ≡ told_under table m
told table m messages blg terse wanted are is_blg is_terse is_wanted = λ k. record m {
  blg = (is_blg ∙ ap log_bytes are) k;
  terse = (is_terse ∙ ap terse_bytes are) k;
  messages = are k;
  wanted = is_wanted k;
}

pub job_told : (table : List (List ℕ)) (files under : List File) (root root' : List ℕ) (min : ℕ) (shown told : Meaning)
    → table ≡ table_of files root → under ≡ map (file_under table) files → root' ≡ root_under root
    → shown ≡ meaning under root' min → told ≡ told_under table shown → told ≡ job_meaning files root min
unfolding job_meaning
job_told table files under root root' min shown told is_table is_under is_root is_shown is_told =
    is_told ∙ ap (told_under table) (is_shown ∙ ap (λ (fs : List File). meaning fs root' min) is_under ∙ ap (λ (r : List ℕ). meaning (map (file_under table) files) r min) is_root)
    ∙ ap (λ (t : List (List ℕ)). meaning_under t files root min) is_table

-- The steps of the run

pub job_stepped : (table : List (List ℕ)) (files under : List File) (root root' : List ℕ) (min : ℕ) (steps : List Step)
    → table ≡ table_of files root → under ≡ map (file_under table) files → root' ≡ root_under root
    → steps ≡ trace under root' min → steps ≡ job_trace files root min
unfolding job_trace
job_stepped table files under root root' min steps is_table is_under is_root are =
    are ∙ ap (λ (fs : List File). trace fs root' min) is_under ∙ ap (λ (r : List ℕ). trace (map (file_under table) files) r min) is_root
    ∙ ap (λ (t : List (List ℕ)). trace (map (file_under t) files) (root_under root) min) is_table

-- The files that a run looks for are those that its .aux files want.

pub job_wanted : (table : List (List ℕ)) (files under : List File) (root root' : List ℕ) (min : ℕ) (c : Citations) (names : List (List ℕ))
    → table ≡ table_of files root → under ≡ map (file_under table) files → root' ≡ root_under root
    → c ≡ citations under root' → names ≡ map (name_back table) c.wanted → names ≡ (job_meaning files root min).wanted
unfolding meaning
job_wanted table files under root root' min c names is_table is_under is_root is_cited are =
    are ∙ ap (λ (d : Citations). map (name_back table) d.wanted) is_cited
    ∙ ap (λ (m : Meaning). m.wanted)
    (job_told table files under root root' min (meaning under root' min) (told_under table (meaning under root' min)) is_table is_under is_root refl refl)
