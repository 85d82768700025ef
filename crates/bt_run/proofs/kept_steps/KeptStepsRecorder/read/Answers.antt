use Rattle.std.proofs.Common.{◌∙◌, ap, sym, subst, map, List}
use Rattle.bt_style.specs.Program.{program_of}
use Rattle.bt_actions.specs.declared.entry.Entry.{Entry}
use Rattle.bt_run.specs.declared.kept_steps.KeptSteps.{KeptSteps}
use Rattle.bt_run.specs.Course.{course_world}
use Rattle.bt_run.specs.inner.Earlier.{AreSame, fixed_at}
use Rattle.bt_run.specs.inner.JobView.{job_of}
use Rattle.bt_run.specs.inner.Marks.{bare_mark}
use Rattle.bt_run.specs.inner.Work.{IsConsistent}
use Rattle.bt_run.proofs.AlikeLemmas.{stays_read}
use Rattle.bt_run.proofs.CommandLemmas.{read_consistent}
use Rattle.bt_run.proofs.kept_steps.KeptStepsRecorder.read.Goals as goal

pub returns-clause-ready : goal.returns-clause-ready
returns-clause-ready c =
    let job = c.args.job in
    let s = c.args.self.now in
    let same = c.in_ok-same.same in
    let are_bare = c.in_ok-marks.ensures ∙ ap (map bare_mark) c.as_slice-3.ensures in
    let are_same : AreSame job.earlier.now.entries c.read.new.course.entries same = subst (λ (es : List Entry). AreSame job.earlier.now.entries es same) c.as_slice-2.ensures (subst (λ (es : List Entry). AreSame es c.as_slice-2.result.now same) c.as_slice.ensures c.in_ok-same.ensures) in
    subst (λ (k : KeptSteps). IsConsistent (program_of job.style.now) job.earlier.now (course_world c.read.new.course) k) (sym c.in_ok-make_room.ensures)
    (read_consistent (program_of job.style.now) job.earlier.now (job_of job) c.args.number c.args.course.now c.read.new.course s
    c.read.new.kept c.in_ok-marks.marks same c.in_ok-found.ensures.run are_bare are_same c.in_ok-found.ensures.kept c.requires)

pub returns-clause-seen : goal.returns-clause-seen
returns-clause-seen c = ap (λ (k : KeptSteps). k.steps) c.in_ok-make_room.ensures

pub same_entries-requires : goal.same_entries-requires
same_entries-requires c = λ n stays.
    let job = c.args.job in
    let s = c.args.self.now in
    ap (λ (es : List Entry). fixed_at es n) c.as_slice.ensures
    ∙ stays_read s.is_earlier s.resolution job.earlier.now.entries c.in_ok-found.found c.when-alike.result (job_of job) c.args.number c.args.course.now c.read.new.course
    c.requires.found_before c.in_ok-found.ensures.alike c.when-alike.ensures c.in_ok-found.ensures.run n stays
    ∙ ap (λ (es : List Entry). fixed_at es n) (sym c.as_slice-2.ensures)
