use Rattle.std.proofs.Common.{◌≡◌, length, drop}
use Rattle.bt_style.specs.Program.{program_of}
use Rattle.bt_run.specs.Course.{course_world}
use Rattle.bt_run.specs.Commands.{iterated}
use Rattle.bt_run.specs.inner.Course.{recorded, IsOrdered}
use Rattle.bt_run.proofs.step_command.StepCommand.run_for_each.Given as goal

-- the steps for the places that are left give the whole
abbrev pub invariant-places : goal.invariant-places
invariant-places g l = record {
  run :
      iterated g.R.Recorder.note (program_of l.self.job.style.now) l.self.site.now l.target (drop l.done l.places) (recorded l.course (g.R.Recorder.seen l.recorder))
      ≡ iterated g.R.Recorder.note (program_of l.self.job.style.now) l.self.site.now l.target l.places (recorded l.fn.course (g.R.Recorder.seen l.fn.recorder));
  ordered : IsOrdered l.course;
  entries : length l.course.entries ≡ length l.fn.course.entries;
  ready : g.R.Recorder.ready l.recorder l.self.job (course_world l.course);
}
