use Rattle.std.proofs.Common.{◌≡◌, drop}
use Rattle.bt_run.specs.Course.{course_world}
use Rattle.bt_run.specs.Commands.{commands_from}
use Rattle.bt_run.specs.inner.Course.{recorded, IsOrdered}
use Rattle.bt_run.specs.inner.JobView.{job_of}
use Rattle.bt_run.proofs.commands.run_commands.Given as goal

-- the commands that are left give the whole
abbrev pub invariant-commands : goal.invariant-commands
invariant-commands g l = record {
  run :
      commands_from g.R.Recorder.note (job_of l.job) l.number (drop l.number l.job.style.now.commands) (recorded l.course (g.R.Recorder.seen l.recorder))
      ≡ commands_from g.R.Recorder.note (job_of l.job) 0 l.job.style.now.commands (recorded l.fn.course (g.R.Recorder.seen l.fn.recorder));
  ordered : IsOrdered l.course;
  ready : g.R.Recorder.ready l.recorder l.job (course_world l.course);
}
