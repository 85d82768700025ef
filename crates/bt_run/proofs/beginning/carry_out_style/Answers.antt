use Rattle.std.proofs.Common.{◌∙◌, ap, refl, sym, subst, List}
use Rattle.std.specs.Option.{ForSome}
use Rattle.bt_style.specs.Program.{program_of}
use Rattle.bt_run.specs.declared.course.Step.{Step}
use Rattle.bt_run.specs.Counts.{calls_at}
use Rattle.bt_run.specs.Course.{course_world}
use Rattle.bt_run.specs.Meaning.{first_globals, run_begun}
use Rattle.bt_run.specs.inner.Calls.{AreCalls, AreCallsFrom}
use Rattle.bt_run.specs.inner.JobView.{job_of}
use Rattle.bt_run.proofs.AnswerLemmas.{begun_consistent, carried_by, kept_with}
use Rattle.bt_run.proofs.beginning.carry_out_style.Goals as goal

pub run_style-requires : goal.run_style-requires
run_style-requires c =
    let p = program_of c.args.job.style.now in
    let earlier = c.args.job.earlier.now in
    begun_consistent p earlier (course_world (run_begun (first_globals p) c.args.log).course) c.args.steps.now earlier.calls refl c.requires.begun earlier.called c.requires.found

pub calls_of_all-requires : goal.calls_of_all-requires
calls_of_all-requires c =
    let s = c.run_style.new.recorder in
    subst (λ (es : List Step). ForSome s.calls (AreCallsFrom es s.reuse.next c.as_slice.result.now)) (sym c.as_slice-earlier.ensures)
    (subst (λ (ss : List Step). ForSome s.calls (AreCallsFrom c.args.job.earlier.now.steps s.reuse.next ss)) (sym c.as_slice.ensures) c.in_ok-course.ensures.ready.called)

pub returns-clause-run : goal.returns-clause-run
returns-clause-run c =
    carried_by (job_of c.args.job) c.args.log c.tell_counts.new.log c.in_ok-course.course c.args.steps.now.steps c.run_style.new.recorder.steps c.in_ok-calls.calls
    c.requires.begun.0 c.in_ok-course.ensures.run (λ place lt. c.in_ok-calls.ensures place lt ∙ ap (λ ss. calls_at ss place) c.as_slice.ensures) c.in_ok-tell_counts.ensures

pub returns-clause-work : goal.returns-clause-work
returns-clause-work c = c.in_ok-course.ensures.ready.work

pub returns-clause-kept : goal.returns-clause-kept
returns-clause-kept c =
    let s = c.run_style.new.recorder in
    kept_with (program_of c.args.job.style.now) c.args.job.earlier.now (course_world c.in_ok-course.course) s c.in_ok-calls.calls c.in_ok-course.ensures.ready
    (subst (λ (ss : List Step). AreCalls ss c.in_ok-calls.calls) c.as_slice.ensures c.in_ok-calls.ensures)
