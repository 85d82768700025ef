-- What a session over an author's files shows.
use Rattle.std.specs.Prelude.{ℕ, Bool, ◌&&◌, nat_le, List, length}
use Rattle.std.specs.Option.{is_none}
use Rattle.bt_job.specs.declared.files.File.{File}
use Rattle.bt_job.specs.FileNames.{text_of}
use Rattle.bt_run.specs.declared.course.Step.{Step}
use Rattle.bt_run.specs.Meaning.{Meaning}
use Rattle.bt_front.specs.Job.{job_meaning, job_trace}
use Rattle.bibtex.specs.declared.state.State.{State}
use Rattle.bibtex.specs.Applied.{file_count_limit}

-- whether there is no room for a file of this name: it would be one more, and there are as many as there may be
abbrev pub is_full_for : List File → List ℕ → Bool
is_full_for files name = is_none (text_of files name) && nat_le file_count_limit (length files)

-- What an author's files mean. Their names may be any, and their texts of any size.
abbrev pub shown : State → Meaning
shown s = job_meaning s.texts s.root s.min

-- the steps of their run
abbrev pub steps_of : State → List Step
steps_of s = job_trace s.texts s.root s.min
