-- What a run reads, as the program has it.
use Rattle.std.specs.Prelude.{ℕ, List, Option}
use Rattle.bt_log.specs.declared.message.Message.{Message}
use Rattle.bt_style.specs.declared.style.Target.{Target}
use Rattle.bt_style.specs.Program.{program_of}
use Rattle.bt_run.specs.declared.course.Step.{Step}
use Rattle.bt_run.specs.declared.job.Job.{Job}
use Rattle.bt_run.specs.declared.step_command.StepCommand.{StepCommand}
use Rattle.bt_run.specs.Course.{Recorded, stepped}
use Rattle.bt_run.specs.Commands.{iterated, commands_from}
use Rattle.bt_run.specs.Meaning.{first_globals, run_begun}
use Rattle.bt_run.specs.ReadCommand.{Job as JobSeen}
use Rattle.bt_run.specs.inner.Cases.{unless_stopped}
use Rattle.bt_run.specs.inner.Course.{recorded}

abbrev pub job_of : Job → JobSeen
job_of j =
    record {
      files = j.files.now;
      cites = j.cites.now;
      databases = j.databases.now;
      min = j.min;
      style = j.name.now;
      program = program_of j.style.now;
    }

-- the commands of a job's style in order, after a log
abbrev pub commands_of : {S : Type 0} → (S → Step → S) → Job → List Message → S → Recorded S
commands_of note j log seen =
    commands_from note (job_of j) 0 j.style.now.commands
    (recorded (run_begun (first_globals (program_of j.style.now)) log).course seen)

-- a step of a command, unless the step before it stopped the run
abbrev pub next_step : {S : Type 0} → (S → Step → S) → StepCommand → Target → Option ℕ → Recorded S → Recorded S
next_step note c t x r =
    unless_stopped r.course.stopped r (stepped note (program_of c.job.style.now) c.site.now t x r)

-- the steps of a command for the entries at these places
abbrev pub steps_for : {S : Type 0} → (S → Step → S) → StepCommand → Target → List ℕ → Recorded S → Recorded S
steps_for note c t places r = iterated note (program_of c.job.style.now) c.site.now t places r
